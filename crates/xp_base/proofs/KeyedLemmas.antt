-- Items found, put at the end, changed, taken away and moved in a keyed list.
use Rattle.std.proofs.Common.{◌≡◌, ◌≢◌, inl, inr, ℕ, ◌+◌, ◌<◌, Bool, true, false, Option, Some, None, List, [], ◌∷◌, ◌++◌, length, get_or, set, map, take, drop, zero, suc, cond, eqb, ltb, refl, sym, ap, ◌∙◌, arith, subst}
use Rattle.std.specs.Prelude.{position, not, filter, is_some, All}
use Rattle.std.specs.Option.{option_map}
use Rattle.std.specs.List.{slice_get, position_or_len}
use Rattle.std.proofs.lemmas.Bool.{cases_eq, cases_order, cond-true, cond-false, cond_both}
use Rattle.std.proofs.lemmas.Bool.Decides.{nat_tests}
use Rattle.std.proofs.lemmas.Option.{cond_some, none-some, slice_get_past, slice_get-get_or}
use Rattle.std.proofs.lemmas.List.Folds.{find_at, find-append}
use Rattle.std.proofs.lemmas.List.{map_push, same_lists, length-map, length-set, get_or-map, get_or-set_same, get_or-set_other, get_or_default}
use Rattle.std.proofs.lemmas.List.Elements.{All-push, All-map, All-filter}
use Rattle.std.proofs.lemmas.List.Kept.{AllPairs-filter}
use Rattle.std.proofs.lemmas.List.Quantifiers.{all_pairs_push, position-Some}
use Rattle.xp_base.specs.Keyed.{HasDistinctKeys, keyed_find, has_key, keyed_push, keyed_push_some, keyed_change, keyed_replace, keyed_remove, keyed_last}
use Rattle.xp_base.specs.KeyedLaws.{KeyedFinds, KeyedKeeps, KeyedOrders, KeyedPlaces}

module _ {A : Type 0} (key : A → ℕ) where
  -- what a change makes of an item
  abbrev pub changed_at : ℕ → (A → A) → A → A
  changed_at k change item = cond (eqb (key item) k) (change item) item

  pub find-found : (items : List A) (k : ℕ) (item : A) → keyed_find key items k ≡ Some item → key item ≡ k
  find-found [] k item e = absurd (none-some item e)
  find-found (first ∷ items) k item e = elim (cases_eq (key first) k) [
    | inl same ↦ let is : first ≡ item = grind (arith, nat_tests, same, e) in sym (ap key is) ∙ same
    | inr other ↦ find-found items k item (grind (arith, nat_tests, other, e))
  ]

  pub find-pushed : (items : List A) (new : A) (k : ℕ) → has_key key items (key new) ≡ false
      → keyed_find key (keyed_push items new) k ≡ cond (eqb k (key new)) (Some new) (keyed_find key items k)
  find-pushed [] new k missing = grind (arith, nat_tests)
  find-pushed (item ∷ items) new k missing = elim (cases_eq (key item) (key new)) [
    | inl same ↦ absurd (grind (arith, nat_tests, same))
    | inr other ↦
        let later : has_key key items (key new) ≡ false = grind (arith, nat_tests, other) in
        let rest = find-pushed items new k later in
        grind (arith, nat_tests, rest, other)
  ]

  pub find-changed : (items : List A) (k : ℕ) (change : A → A) (other : ℕ) → ((item : A) → key (change item) ≡ key item)
      → keyed_find key (keyed_change key items k change) other ≡ cond (eqb other k) (option_map change (keyed_find key items other)) (keyed_find key items other)
  find-changed [] k change other keeps = elim (eqb other k) as (λ b. ◌≡◌ {A = Option A} None (cond b None None)) [ true ↦ refl | false ↦ refl ]
  find-changed (item ∷ items) k change other keeps =
      let rest = find-changed items k change other keeps in
      let kept = keeps item in
      elim (cases_eq (key item) k) [
        | inl same ↦
            let changed : changed_at k change item ≡ change item = cond-true (eqb (key item) k) (change item) item (grind (arith, nat_tests, same)) in
            rw changed (elim (cases_eq (key item) other) [
              | inl here ↦ grind (arith, nat_tests, rest, kept, same, here)
              | inr elsewhere ↦ grind (arith, nat_tests, rest, kept, same, elsewhere)
            ])
        | inr apart ↦
            let stays : changed_at k change item ≡ item = cond-false (eqb (key item) k) (change item) item (grind (arith, nat_tests, apart)) in
            rw stays (elim (cases_eq (key item) other) [
              | inl here ↦ grind (arith, nat_tests, rest, apart, here)
              | inr elsewhere ↦ grind (arith, nat_tests, rest, apart, elsewhere)
            ])
      ]

  -- the item that replaces one has the key of that one
  pub replaced_key : (new item : A) → key (cond (eqb (key item) (key new)) new item) ≡ key item
  replaced_key new item = elim (cases_eq (key item) (key new)) [
    | inl same ↦ ap key (cond-true (eqb (key item) (key new)) new item (grind (arith, nat_tests, same))) ∙ sym same
    | inr other ↦ ap key (cond-false (eqb (key item) (key new)) new item (grind (arith, nat_tests, other)))
  ]

  pub find-replaced : (items : List A) (new : A) (other : ℕ) → has_key key items (key new) ≡ true
      → keyed_find key (keyed_replace key items new) other ≡ cond (eqb other (key new)) (Some new) (keyed_find key items other)
  find-replaced [] new other there = absurd (let e : false ≡ true = there in cc)
  find-replaced (item ∷ items) new other there = elim (cases_eq (key item) (key new)) [
    | inl same ↦
        let is : cond (eqb (key item) (key new)) new item ≡ new = cond-true (eqb (key item) (key new)) new item (grind (arith, nat_tests, same)) in
        rw is (elim (cases_eq other (key new)) [
          | inl here ↦ grind (arith, nat_tests, here)
          | inr elsewhere ↦
              let rest = find-others items new other elsewhere in
              grind (arith, nat_tests, rest, same, elsewhere)
        ])
    | inr apart ↦
        let stays : cond (eqb (key item) (key new)) new item ≡ item = cond-false (eqb (key item) (key new)) new item (grind (arith, nat_tests, apart)) in
        let later : has_key key items (key new) ≡ true = grind (arith, nat_tests, apart, there) in
        let rest = find-replaced items new other later in
        rw stays (elim (cases_eq (key item) other) [
          | inl here ↦ grind (arith, nat_tests, rest, apart, here)
          | inr elsewhere ↦ grind (arith, nat_tests, rest, apart, elsewhere)
        ])
  ] where
    find-others : (items : List A) (new : A) (other : ℕ) → other ≢ key new → keyed_find key (keyed_replace key items new) other ≡ keyed_find key items other
    find-others [] new other apart = refl
    find-others (item ∷ items) new other apart =
        let rest = find-others items new other apart in
        elim (cases_eq (key item) (key new)) [
          | inl same ↦
              let is : cond (eqb (key item) (key new)) new item ≡ new = cond-true (eqb (key item) (key new)) new item (grind (arith, nat_tests, same)) in
              rw is (grind (arith, nat_tests, rest, same, apart))
          | inr other_key ↦
              let stays : cond (eqb (key item) (key new)) new item ≡ item = cond-false (eqb (key item) (key new)) new item (grind (arith, nat_tests, other_key)) in
              rw stays (ap (cond (eqb (key item) other) (Some item)) rest)
        ]

  pub find-removed : (items : List A) (k other : ℕ) → keyed_find key (keyed_remove key items k) other ≡ cond (eqb other k) None (keyed_find key items other)
  find-removed [] k other = grind (arith, nat_tests)
  find-removed (item ∷ items) k other =
      let rest = find-removed items k other in
      elim (cases_eq (key item) k) [
        | inl same ↦ elim (cases_eq (key item) other) [ inl here ↦ grind (arith, nat_tests, rest, same, here) | inr elsewhere ↦ grind (arith, nat_tests, rest, same, elsewhere) ]
        | inr apart ↦ elim (cases_eq (key item) other) [ inl here ↦ grind (arith, nat_tests, rest, apart, here) | inr elsewhere ↦ grind (arith, nat_tests, rest, apart, elsewhere) ]
      ]

  find-pushed_some : (items : List A) (k other : ℕ) (o : Option A) → keyed_find key items k ≡ o
      → keyed_find key (keyed_push_some (keyed_remove key items k) o) other ≡ keyed_find key items other
  find-pushed_some items k other None e =
      let rest = find-removed items k other in
      elim (cases_eq other k) [ inl same ↦ rw same (grind (arith, nat_tests, e, find-removed items k k)) | inr apart ↦ grind (arith, nat_tests, rest, apart) ]
  find-pushed_some items k other (Some item) e =
      let number = find-found items k item e in
      let rest = find-removed items k other in
      let there = find-append (λ z. eqb (key z) other) (keyed_remove key items k) (item ∷ []) in
      elim (cases_eq other k) [ inl same ↦ grind (arith, nat_tests, e, rest, there, number, same) | inr apart ↦ grind (arith, nat_tests, rest, there, number, apart) ]

  pub find-moved : (items : List A) (k other : ℕ) → keyed_find key (keyed_last key items k) other ≡ keyed_find key items other
  find-moved items k other = find-pushed_some items k other (keyed_find key items k) refl

  -- each item's key differs from one that no item has
  pub apart_from_missing : (items : List A) (k : ℕ) → has_key key items k ≡ false → (i : ℕ) (d : A) → i < length items → key (get_or items i d) ≢ k
  apart_from_missing [] k missing i d within = absurd (omega arith)
  apart_from_missing (item ∷ items) k missing zero d within = λ same. absurd (grind (arith, nat_tests, same))
  apart_from_missing (item ∷ items) k missing (suc i) d within =
      elim (cases_eq (key item) k) [
        | inl same ↦ absurd (grind (arith, nat_tests, same))
        | inr other ↦ apart_from_missing items k (grind (arith, nat_tests, other)) i d (omega arith)
      ]

  pub distinct-pushed : (items : List A) (new : A) → HasDistinctKeys key items → has_key key items (key new) ≡ false → HasDistinctKeys key (keyed_push items new)
  distinct-pushed items new apart missing = all_pairs_push (λ before after. key before ≢ key after) items new apart (apart_from_missing items (key new) missing)

  -- items of the same keys in their places
  distinct-map : (f : A → A) → ((item : A) → key (f item) ≡ key item) → (items : List A) → HasDistinctKeys key items → HasDistinctKeys key (map f items)
  distinct-map f keeps items apart =
      let number : (i : ℕ) (d : A) → i < length items → key (get_or (map f items) i d) ≡ key (get_or items i d) =
      λ i d within. ap key (get_or-map f items i d d within) ∙ keeps (get_or items i d) in
      λ i j d before within.
      let there : j < length items = omega (arith, length-map items f) in
      λ same. apart i j d before there (sym (number i d (omega arith)) ∙ same ∙ number j d there)

  changed_key : (k : ℕ) (change : A → A) → ((item : A) → key (change item) ≡ key item) → (item : A) → key (changed_at k change item) ≡ key item
  changed_key k change keeps item = cond_both (eqb (key item) k) (change item) item (λ z. key z ≡ key item) (λ _. keeps item) (λ _. refl)

  pub distinct-changed : (items : List A) (k : ℕ) (change : A → A) → ((item : A) → key (change item) ≡ key item)
      → HasDistinctKeys key items → HasDistinctKeys key (keyed_change key items k change)
  distinct-changed items k change keeps apart = distinct-map (changed_at k change) (changed_key k change keeps) items apart

  pub distinct-replaced : (items : List A) (new : A) → HasDistinctKeys key items → HasDistinctKeys key (keyed_replace key items new)
  distinct-replaced items new apart = distinct-map (λ item. cond (eqb (key item) (key new)) new item) (replaced_key new) items apart

  pub distinct-removed : (items : List A) (k : ℕ) → HasDistinctKeys key items → HasDistinctKeys key (keyed_remove key items k)
  distinct-removed items k apart = AllPairs-filter (λ before after. key before ≢ key after) (λ item. not (eqb (key item) k)) items apart

  -- no item without it has its key
  pub missing-removed : (items : List A) (k : ℕ) → has_key key (keyed_remove key items k) k ≡ false
  missing-removed items k = let none = find-removed items k k in grind (arith, nat_tests)

  distinct-pushed_some : (items : List A) (k : ℕ) (o : Option A) → keyed_find key items k ≡ o → HasDistinctKeys key items
      → HasDistinctKeys key (keyed_push_some (keyed_remove key items k) o)
  distinct-pushed_some items k None e apart = distinct-removed items k apart
  distinct-pushed_some items k (Some item) e apart =
      distinct-pushed (keyed_remove key items k) item (distinct-removed items k apart)
      (ap (has_key key (keyed_remove key items k)) (find-found items k item e) ∙ missing-removed items k)

  pub distinct-moved : (items : List A) (k : ℕ) → HasDistinctKeys key items → HasDistinctKeys key (keyed_last key items k)
  distinct-moved items k apart = distinct-pushed_some items k (keyed_find key items k) refl apart

  pub all-changed : (P : A → Type 0) (items : List A) (k : ℕ) (change : A → A) → ((item : A) → P item → P (change item)) → All P items → All P (keyed_change key items k change)
  all-changed P items k change keeps all =
      All-map P (changed_at k change) items
      (λ i d within.
      let item = get_or items i d in
      cond_both (eqb (key item) k) (change item) item P (λ _. keeps item (all i d within)) (λ _. all i d within))

  -- what is found is one of all
  pub all-found : (P : A → Type 0) (items : List A) (k : ℕ) (item : A) → All P items → keyed_find key items k ≡ Some item → P item
  all-found P [] k item all e = absurd (none-some item e)
  all-found P (first ∷ items) k item all e = elim (cases_eq (key first) k) [
    | inl same ↦ let is : first ≡ item = grind (arith, nat_tests, same, e) in subst P is (all zero first (omega arith))
    | inr other ↦ all-found P items k item (λ i d within. all (suc i) d (omega arith)) (grind (arith, nat_tests, other, e))
  ]

  all-pushed_some : (P : A → Type 0) (items : List A) (k : ℕ) (o : Option A) → keyed_find key items k ≡ o → All P items → All P (keyed_push_some (keyed_remove key items k) o)
  all-pushed_some P items k None e all = All-filter (λ item. not (eqb (key item) k)) P items all
  all-pushed_some P items k (Some item) e all =
      All-push P (keyed_remove key items k) item (All-filter (λ z. not (eqb (key z) k)) P items all) (all-found P items k item all e)

  pub all-moved : (P : A → Type 0) (items : List A) (k : ℕ) → All P items → All P (keyed_last key items k)
  all-moved P items k all = all-pushed_some P items k (keyed_find key items k) refl all

  keys-map : (f : A → A) → ((item : A) → key (f item) ≡ key item) → (items : List A) → map key (map f items) ≡ map key items
  keys-map f keeps [] = refl
  keys-map f keeps (item ∷ items) = rw (keeps item, keys-map f keeps items) refl

  pub keys-pushed : (items : List A) (new : A) → map key (keyed_push items new) ≡ map key items ++ key new ∷ []
  keys-pushed items new = map_push key items new

  pub keys-changed : (items : List A) (k : ℕ) (change : A → A) → ((item : A) → key (change item) ≡ key item) → map key (keyed_change key items k change) ≡ map key items
  keys-changed items k change keeps = keys-map (changed_at k change) (changed_key k change keeps) items

  pub keys-replaced : (items : List A) (new : A) → map key (keyed_replace key items new) ≡ map key items
  keys-replaced items new = keys-map (λ item. cond (eqb (key item) (key new)) new item) (replaced_key new) items

  pub keys-removed : (items : List A) (k : ℕ) → map key (keyed_remove key items k) ≡ filter (λ n. not (eqb n k)) (map key items)
  keys-removed [] k = refl
  keys-removed (item ∷ items) k = here (eqb (key item) k) (keys-removed items k) where
    here : (b : Bool) → map key (keyed_remove key items k) ≡ filter (λ n. not (eqb n k)) (map key items)
        → map key (cond (not b) (item ∷ keyed_remove key items k) (keyed_remove key items k))
        ≡ cond (not b) (key item ∷ filter (λ n. not (eqb n k)) (map key items)) (filter (λ n. not (eqb n k)) (map key items))
    here true rest = rest
    here false rest = ap (λ ns. key item ∷ ns) rest

  keys-pushed_some : (items : List A) (k : ℕ) (o : Option A) → keyed_find key items k ≡ o → is_some o ≡ true
      → map key (keyed_push_some (keyed_remove key items k) o) ≡ filter (λ n. not (eqb n k)) (map key items) ++ k ∷ []
  keys-pushed_some items k None e there = absurd (let h : false ≡ true = there in cc)
  keys-pushed_some items k (Some item) e there =
      map_push key (keyed_remove key items k) item
      ∙ ap (λ ns. ns ++ key item ∷ []) (keys-removed items k)
      ∙ ap (λ n. filter (λ z. not (eqb z k)) (map key items) ++ n ∷ []) (find-found items k item e)

  pub keys-moved : (items : List A) (k : ℕ) → has_key key items k ≡ true → map key (keyed_last key items k) ≡ filter (λ n. not (eqb n k)) (map key items) ++ k ∷ []
  keys-moved items k there = keys-pushed_some items k (keyed_find key items k) refl there

  -- the item at the place of a key has it
  pub key_in_place : (items : List A) (k i : ℕ) (d : A) → position (λ item. eqb (key item) k) items ≡ Some i → (i < length items) × (key (get_or items i d) ≡ k)
  key_in_place items k i d found =
      let at = position-Some (λ item. eqb (key item) k) items i d found in
      let test : eqb (key (get_or items i d)) k ≡ true = at.1 in
      (at.0, grind (arith, nat_tests, test))

  -- two items at different places have different keys
  apart_in_place : (items : List A) → HasDistinctKeys key items → (i j : ℕ) (d : A) → i < length items → j < length items → j ≢ i → key (get_or items j d) ≢ key (get_or items i d)
  apart_in_place items apart i j d within there other = elim (cases_order j i) [
    | inl same ↦ absurd (other same)
    | inr ordered ↦ elim ordered [
      | inl before ↦ apart j i d before within
      | inr behind ↦ λ same. apart i j d behind there (sym same)
    ]
  ]

  pub found_in_place : (items : List A) (k i : ℕ) → position (λ item. eqb (key item) k) items ≡ Some i → keyed_find key items k ≡ slice_get items i
  found_in_place items k i found =
      let place = position_or_len (λ item. eqb (key item) k) items in
      find_at (λ item. eqb (key item) k) items ∙ ap (slice_get items) (cond_some (ltb place (length items)) place i found).1

  cond_none : (b : Bool) (x : ℕ) → cond b (Some x) None ≡ None → b ≡ false
  cond_none true x h = absurd (none-some x (sym h))
  cond_none false x h = refl

  pub missing_in_place : (items : List A) (k : ℕ) → position (λ item. eqb (key item) k) items ≡ None → keyed_find key items k ≡ None
  missing_in_place items k found =
      let place = position_or_len (λ item. eqb (key item) k) items in
      let past : ltb place (length items) ≡ false = cond_none (ltb place (length items)) place found in
      find_at (λ item. eqb (key item) k) items ∙ slice_get_past items place (grind (arith, nat_tests, past))

  -- a write at the place of the item with that key is its change
  pub changed_in_place : (items : List A) (k i : ℕ) (change : A → A) (d : A) → HasDistinctKeys key items
      → position (λ item. eqb (key item) k) items ≡ Some i → set items i (change (get_or items i d)) ≡ keyed_change key items k change
  changed_in_place items k i change d apart found =
      let at : (e : A) → (i < length items) × (key (get_or items i e) ≡ k) = λ e. key_in_place items k i e found in
      let new : List A = keyed_change key items k change in
      same_lists (set items i (change (get_or items i d))) new
      (length-set items i (change (get_or items i d)) ∙ sym (length-map items (changed_at k change)))
      (λ j e within.
      let there : j < length items = omega (arith, length-set items i (change (get_or items i d))) in
      elim (cases_eq j i) [
        | inl here ↦
            let P : ℕ → Type 0 = λ z. get_or (set items i (change (get_or items i d))) z e ≡ get_or new z e in
            let number = (at e).1 in
            let test : eqb (key (get_or items i e)) k ≡ true = grind (arith, nat_tests, number) in
            subst P (sym here)
            (get_or-set_same items i (change (get_or items i d)) e (at e).0
            ∙ ap change (get_or_default items i d e (at e).0)
            ∙ sym (cond-true (eqb (key (get_or items i e)) k) (change (get_or items i e)) (get_or items i e) test)
            ∙ sym (get_or-map (changed_at k change) items i e e (at e).0))
        | inr other ↦
            let number = (at e).1 in
            let different = apart_in_place items apart i j e (at e).0 there other in
            let test : eqb (key (get_or items j e)) k ≡ false = grind (arith, nat_tests, different, number) in
            get_or-set_other items i j (change (get_or items i d)) e other
            ∙ sym (cond-false (eqb (key (get_or items j e)) k) (change (get_or items j e)) (get_or items j e) test)
            ∙ sym (get_or-map (changed_at k change) items j e e there)
      ])

  -- where none has the key, a change changes nothing
  changed_none : (items : List A) (k : ℕ) (change : A → A) → ((j : ℕ) (d : A) → j < length items → key (get_or items j d) ≢ k) → keyed_change key items k change ≡ items
  changed_none [] k change apart = refl
  changed_none (item ∷ items) k change apart =
      let first = apart zero item (omega arith) in
      let test : eqb (key item) k ≡ false = grind (arith, nat_tests, first) in
      rw test (ap (λ rest. item ∷ rest) (changed_none items k change (λ j d within. apart (suc j) d (omega arith))))

  -- two changes that make the same of the item found make the same list
  pub alike-changed : (items : List A) (k : ℕ) (item : A) (one two : A → A) → HasDistinctKeys key items → keyed_find key items k ≡ Some item → one item ≡ two item
      → keyed_change key items k one ≡ keyed_change key items k two
  alike-changed [] k item one two apart found same = refl
  alike-changed (first ∷ items) k item one two apart found same = elim (cases_eq (key first) k) [
    | inl here ↦
        let is : first ≡ item = grind (arith, nat_tests, here, found) in
        let test : eqb (key first) k ≡ true = grind (arith, nat_tests, here) in
        let others : (j : ℕ) (d : A) → j < length items → key (get_or items j d) ≢ k = λ j d within equal. apart zero (suc j) d (omega arith) (omega arith) (here ∙ sym equal) in
        rw test (ap (λ z. z ∷ keyed_change key items k one) (ap one is ∙ same ∙ ap two (sym is))
        ∙ ap (λ rest. two first ∷ rest) (changed_none items k one others ∙ sym (changed_none items k two others)))
    | inr other ↦
        let test : eqb (key first) k ≡ false = grind (arith, nat_tests, other) in
        let later : keyed_find key items k ≡ Some item = grind (arith, nat_tests, other, found) in
        rw test (ap (λ rest. first ∷ rest) (alike-changed items k item one two (λ i j d before within. apart (suc i) (suc j) d (omega arith) (omega arith)) later same))
  ]

  -- where none has the key, nothing is taken away
  pub removed_none : (items : List A) (k : ℕ) → ((j : ℕ) (d : A) → j < length items → key (get_or items j d) ≢ k) → keyed_remove key items k ≡ items
  removed_none [] k apart = refl
  removed_none (item ∷ items) k apart =
      let first = apart zero item (omega arith) in
      let test : eqb (key item) k ≡ false = grind (arith, nat_tests, first) in
      rw test (ap (λ rest. item ∷ rest) (removed_none items k (λ j d within. apart (suc j) d (omega arith))))

  -- what stays where the one item with that key, at that place, is taken away
  removed_one : (items : List A) (k i : ℕ) → ((d : A) → key (get_or items i d) ≡ k) → i < length items
      → ((j : ℕ) (d : A) → j < length items → j ≢ i → key (get_or items j d) ≢ k) → take i items ++ drop (suc i) items ≡ keyed_remove key items k
  removed_one [] k i has within apart = absurd (omega arith)
  removed_one (item ∷ items) k zero has within apart =
      let first = has item in
      let test : eqb (key item) k ≡ true = grind (arith, nat_tests, first) in
      rw test (sym (removed_none items k (λ j d there. apart (suc j) d (omega arith) (λ e. absurd (omega (arith, e))))))
  removed_one (item ∷ items) k (suc i) has within apart =
      let first = apart zero item (omega arith) (λ e. absurd (omega (arith, e))) in
      let test : eqb (key item) k ≡ false = grind (arith, nat_tests, first) in
      rw test (ap (λ rest. item ∷ rest) (removed_one items k i has (omega arith) (λ j d there other. apart (suc j) d (omega arith) (λ e. other (omega (arith, e))))))

  pub removed_in_place : (items : List A) (k i : ℕ) → HasDistinctKeys key items → position (λ item. eqb (key item) k) items ≡ Some i
      → take i items ++ drop (i + 1) items ≡ keyed_remove key items k
  removed_in_place [] k i apart found = absurd (none-some i found)
  removed_in_place (first ∷ rest) k i apart found =
      let items : List A = first ∷ rest in
      let within = (key_in_place items k i first found).0 in
      let next : i + 1 ≡ suc i = omega arith in
      ap (λ n. take i items ++ drop n items) next
      ∙ removed_one items k i (λ d. (key_in_place items k i d found).1) within
      (λ j d there other same. apart_in_place items apart i j d within there other (same ∙ sym (key_in_place items k i d found).1))

  pub moved_in_place : (items : List A) (k i : ℕ) (d : A) → HasDistinctKeys key items → position (λ item. eqb (key item) k) items ≡ Some i
      → (take i items ++ drop (i + 1) items) ++ get_or items i d ∷ [] ≡ keyed_last key items k
  moved_in_place items k i d apart found =
      let within = (key_in_place items k i d found).0 in
      ap (λ (rest : List A). rest ++ get_or items i d ∷ []) (removed_in_place items k i apart found)
      ∙ ap (keyed_push_some (keyed_remove key items k)) (sym (found_in_place items k i found ∙ slice_get-get_or items i d within))

pub keyed_finds_lem : (A : Type 0) → KeyedFinds A
keyed_finds_lem A = record { found = find-found; pushed = find-pushed; changed = find-changed; replaced = find-replaced; removed = find-removed; moved = find-moved; alike = alike-changed }

pub keyed_keeps_lem : (A : Type 0) → KeyedKeeps A
keyed_keeps_lem A = record {
  pushed = distinct-pushed;
  changed = distinct-changed;
  replaced = distinct-replaced;
  removed = distinct-removed;
  moved = distinct-moved;
}

pub keyed_orders_lem : (A : Type 0) → KeyedOrders A
keyed_orders_lem A = record {
  pushed = keys-pushed;
  changed = keys-changed;
  replaced = keys-replaced;
  removed = keys-removed;
  moved = keys-moved;
}

pub keyed_places_lem : (A : Type 0) → KeyedPlaces A
keyed_places_lem A = record { found = found_in_place; missing = missing_in_place; changed = changed_in_place; removed = removed_in_place; moved = moved_in_place }
