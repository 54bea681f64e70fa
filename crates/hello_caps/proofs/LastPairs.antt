-- Of the pairs with one key the last counts.
use Rattle.std.proofs.Common.{◌≡◌, ◌≢◌, ℕ, Bool, true, false, Option, None, Some, List, [], ◌∷◌, ◌++◌, refl, sym, ap, ◌∙◌, arith}
use Rattle.std.specs.Prelude.{Contains, if◌then◌else◌}
use Rattle.std.specs.Cmp.Lexicographic.{bytes_decides}
use Rattle.std.proofs.Common.{inl, inr}
use Rattle.std.proofs.lemmas.Bool.{false≢true}
use Rattle.std.proofs.lemmas.List.Elements.{Contains-append_right, Contains-append_cases, Contains-push_cases}
use Rattle.bencode_values.specs.declared.value.Key.{Key}
use Rattle.bencode_values.specs.declared.value.Key.TheVariants as K
use Rattle.bencode_values.specs.declared.value.Value.{Value}
use Rattle.bencode_values.specs.declared.value.Pair.{Pair}
use Rattle.bencode_values.specs.Lookup.{is_text, later, last_value}
use Rattle.hello_caps.specs.Replies.{entry}

-- the test of a key
pub is_key : (key : List ℕ) (k : Key) → is_text key k ≡ true → k ≡ K.Bytes key
is_key key (K.Int n) e = absurd (false≢true e)
is_key key (K.Bytes text) e = ap K.Bytes ((bytes_decides text key).0 e)

key_itself : (key : List ℕ) → is_text key (K.Bytes key) ≡ true
key_itself key = (bytes_decides key key).1 refl

-- the value of the last pair
pub last_there : (key : List ℕ) (before after : List Pair) (v : Value) → last_value key after ≡ None → last_value key (before ++ entry key v ∷ after) ≡ Some v
last_there key [] after v none =
    ap (λ (o : Option Value). later o (if is_text key (K.Bytes key) then Some v else None)) none
    ∙ ap (λ (b : Bool). later None (if b then Some v else None)) (key_itself key)
last_there key (p ∷ before) after v none =
    ap (λ (o : Option Value). later o (if is_text key p.key then Some p.value else None)) (last_there key before after v none)

-- no pair with the key
later_none : (o p : Option Value) → later o p ≡ None → (o ≡ None) × (p ≡ None)
later_none None p e = (refl, e)
later_none (Some v) p e = absurd (cc)

tested_none : (b : Bool) (v : Value) → (if b then Some v else None) ≡ None → b ≡ false
tested_none false v e = refl
tested_none true v e = absurd (cc)

only_item : (p q : Pair) → Contains (p ∷ []) q → p ≡ q
only_item p q there = elim (Contains-push_cases [] p q there) [ inl before ↦ absurd (omega (arith, before.1)) | inr same ↦ same ]

pub none_there : (key : List ℕ) (pairs : List Pair) → last_value key pairs ≡ None → (v : Value) → ¬ Contains pairs (entry key v)
none_there key [] none v there = absurd (omega (arith, there.1))
none_there key (p ∷ pairs) none v there =
    let parts = later_none (last_value key pairs) (if is_text key p.key then Some p.value else None) none in
    elim (Contains-append_cases (p ∷ []) pairs (entry key v) there) [
      | inl first ↦ false≢true (sym (tested_none (is_text key p.key) p.value parts.1) ∙ ap (λ (q : Pair). is_text key q.key) (only_item p (entry key v) first) ∙ key_itself key)
      | inr further ↦ none_there key pairs parts.0 v further
    ]

tested_other : (key : List ℕ) (p : Pair) (b : Bool) → is_text key p.key ≡ b → p ≢ entry key p.value → (if b then Some p.value else None) ≡ None
tested_other key p false e other = refl
tested_other key p true e other = absurd (other (ap (λ (k : Key). record { key = k; value = p.value }) (is_key key p.key e)))

pub there_none : (key : List ℕ) (pairs : List Pair) → ((v : Value) → ¬ Contains pairs (entry key v)) → last_value key pairs ≡ None
there_none key [] never = refl
there_none key (p ∷ pairs) never =
    ap (λ (o : Option Value). later o (if is_text key p.key then Some p.value else None))
    (there_none key pairs (λ v there. never v (Contains-append_right (p ∷ []) pairs (entry key v) there)))
    ∙ tested_other key p (is_text key p.key) refl (λ same. never p.value (rw (← same) (0, omega arith, refl)))
