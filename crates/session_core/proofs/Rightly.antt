-- Ends that are right, from one time to a later one.
use Rattle.std.proofs.Common.{◌≡◌, ◌≢◌, ◌⊎◌, inl, inr, ℕ, zero, suc, ◌<◌, Bool, true, false, List, [], ◌∷◌, ◌++◌, length, set, Some, None, refl, ap, ◌∙◌, sym, subst, arith}
use Rattle.std.specs.Prelude.{slice_get, slice_index_or}
use Rattle.std.proofs.lemmas.Bool.{cases_Bool, cases_eq}
use Rattle.std.proofs.lemmas.Option.{slice_get-get_or, slice_get_within}
use Rattle.link_bay.specs.Connections.{ConnectionRecord, OthersStay}
use Rattle.window_model.specs.Desktop.{Window}
use Rattle.first_script.specs.declared.paint.Paint.{Paint}
use Rattle.client_connection.specs.declared.ends.End.{End}
use Rattle.client_connection.specs.declared.ends.End.TheVariants.{Unended}
use Rattle.session_core.specs.Causes.{HasCause, HasEnded, EndsHaveCauses, EndedStay}
use Rattle.session_core.specs.Ends.{KeepsEnds, EndsOne}
use Rattle.session_core.specs.State.{is_unended}
use Rattle.client_connection.proofs.Sources.{some_same}

-- one connection that was open has ended so, with its cause, and what is known of the others stays
pub record EndsOneFor (tells : Bool) (lines : List Paint) (desk : List Window) (was now : ℕ → ConnectionRecord) (old new : List End) (e : End) : Type 0 where
  pub ended : EndsOne old e new
  pub cause : HasCause tells lines desk e (now ended.number)
  pub others : OthersStay was now ended.number

got_or : {A : Type 0} (xs : List A) (k : ℕ) (x d : A) → slice_get xs k ≡ Some x → slice_index_or xs k d ≡ x
got_or [] zero x d is = absurd (cc is)
got_or [] (suc k) x d is = absurd (cc is)
got_or (y ∷ xs) zero x d is = some_same y x is
got_or (y ∷ xs) (suc k) x d is = got_or xs k x d is

got_set : {A : Type 0} (xs : List A) (n k : ℕ) (y : A) → k ≢ n → slice_get (set xs n y) k ≡ slice_get xs k
got_set [] n zero y other = refl
got_set [] n (suc k) y other = refl
got_set (x ∷ xs) zero zero y other = absurd (other refl)
got_set (x ∷ xs) zero (suc k) y other = refl
got_set (x ∷ xs) (suc n) zero y other = refl
got_set (x ∷ xs) (suc n) (suc k) y other = got_set xs n k y (λ same. other (ap (λ m. suc m) same))

got_here : {A : Type 0} (xs : List A) (n : ℕ) (y x : A) → slice_get (set xs n y) n ≡ Some x → x ≡ y
got_here [] zero y x is = absurd (cc is)
got_here [] (suc n) y x is = absurd (cc is)
got_here (z ∷ xs) zero y x is = sym (some_same y x is)
got_here (z ∷ xs) (suc n) y x is = got_here xs n y x is

pub got_put : {A : Type 0} (xs : List A) (n : ℕ) (y : A) → n < length xs → slice_get (set xs n y) n ≡ Some y
got_put [] n y within = absurd (omega (arith, within))
got_put (x ∷ xs) zero y within = refl
got_put (x ∷ xs) (suc n) y within = got_put xs n y (omega (arith, within))

got_more : {A : Type 0} (xs : List A) (k : ℕ) (y x : A) → slice_get (xs ++ y ∷ []) k ≡ Some x → (slice_get xs k ≡ Some x) ⊎ (x ≡ y)
got_more [] zero y x is = inr (sym (some_same y x is))
got_more [] (suc k) y x is = absurd (cc is)
got_more (z ∷ xs) zero y x is = inl is
got_more (z ∷ xs) (suc k) y x is = got_more xs k y x is

-- the end of a connection, where there is one
got_some : {A : Type 0} (xs : List A) (k : ℕ) → ((x : A) × (slice_get xs k ≡ Some x)) ⊎ (slice_get xs k ≡ None)
got_some [] zero = inr refl
got_some [] (suc k) = inr refl
got_some (x ∷ xs) zero = inl (x, refl)
got_some (x ∷ xs) (suc k) = got_some xs k

-- no end is new
pub rightly_same : (tells : Bool) (lines : List Paint) (desk : List Window) (connection : ℕ → ConnectionRecord) (ends : List End) → EndsHaveCauses tells lines desk connection ends ends
rightly_same tells lines desk connection ends = λ k e has. absurd (cc (sym (has.2 e has.0) ∙ has.1))

-- an end that was there stays
kept_end : (old new : List End) (k : ℕ) (was e : End) → KeepsEnds old new → slice_get old k ≡ Some was → is_unended was ≡ false → slice_get new k ≡ Some e → e ≡ was
kept_end old new k was e keeps there ended now =
    let before : slice_index_or old k Unended ≡ was = got_or old k was Unended there in
    sym (got_or new k e Unended now) ∙ keeps.stay k Unended (slice_get_within old k was there) (ap is_unended before ∙ ended) ∙ before

pub rightly_on : (tells : Bool) (lines : List Paint) (desk : List Window) (was now : ℕ → ConnectionRecord) (old mid new : List End) → KeepsEnds mid new → EndedStay was now mid
    → EndsHaveCauses tells lines desk was old mid → EndsHaveCauses tells lines desk now mid new → EndsHaveCauses tells lines desk now old new
rightly_on tells lines desk was now old mid new keeps stay first second = λ k e has. go k e has (got_some mid k)
  where
    ended : (k : ℕ) (e m : End) → HasEnded old new k e → slice_get mid k ≡ Some m → (is_unended m ≡ true) ⊎ (is_unended m ≡ false) → HasCause tells lines desk e (now k)
    ended k e m has there (inl still) = second k e (has.0, has.1, λ w is. ap is_unended (some_same w m (sym is ∙ there)) ∙ still)
    ended k e m has there (inr closed) =
        let same : e ≡ m = kept_end mid new k m e keeps there closed has.0 in
        subst (λ (r : ConnectionRecord). HasCause tells lines desk e r) (sym (stay k m there closed)) (first k e (there ∙ ap (λ (x : End). Some x) (sym same), has.1, has.2))

    go : (k : ℕ) (e : End) → HasEnded old new k e → ((m : End) × (slice_get mid k ≡ Some m)) ⊎ (slice_get mid k ≡ None) → HasCause tells lines desk e (now k)
    go k e has (inl found) = ended k e found.0 has found.1 (cases_Bool (is_unended found.0))
    go k e has (inr none) = second k e (has.0, has.1, λ w is. absurd (cc (sym none ∙ is)))

-- a connection was accepted
pub rightly_accepted : (tells : Bool) (lines : List Paint) (desk : List Window) (connection : ℕ → ConnectionRecord) (ends : List End) → EndsHaveCauses tells lines desk connection ends (ends ++ Unended ∷ [])
rightly_accepted tells lines desk connection ends = λ k e has. elim (got_more ends k Unended e has.0) [
  | inl there ↦ absurd (cc (sym (has.2 e there) ∙ has.1))
  | inr new ↦ absurd (cc (sym (ap is_unended new) ∙ has.1))
]

-- one connection has ended
pub rightly_one : (tells : Bool) (lines : List Paint) (desk : List Window) (was now : ℕ → ConnectionRecord) (old new : List End) (ended : End) → EndsOneFor tells lines desk was now old new ended → EndsHaveCauses tells lines desk now old new
rightly_one tells lines desk was now old new ended one = λ k e has.
    let is : slice_get (set old one.ended.number ended) k ≡ Some e = ap (λ (es : List End). slice_get es k) (sym one.ended.changed) ∙ has.0 in
    elim (cases_eq k one.ended.number) [
      | inl same ↦
          let which : e ≡ ended = got_here old one.ended.number ended e (ap (slice_get (set old one.ended.number ended)) (sym same) ∙ is) in
          subst (λ (x : End). HasCause tells lines desk x (now k)) (sym which) (subst (λ (n : ℕ). HasCause tells lines desk ended (now n)) (sym same) one.cause)
      | inr other ↦ absurd (cc (sym (has.2 e (sym (got_set old one.ended.number k ended other) ∙ is)) ∙ has.1))
    ]

pub stays_one : (tells : Bool) (lines : List Paint) (desk : List Window) (was now : ℕ → ConnectionRecord) (old new : List End) (ended : End) → EndsOneFor tells lines desk was now old new ended → EndedStay was now old
stays_one tells lines desk was now old new ended one = λ k e there closed. one.others k (λ same.
    absurd (cc (sym closed ∙ ap is_unended (sym (got_or old k e ended there) ∙ ap (λ n. slice_index_or old n ended) same) ∙ one.ended.unended)))

-- a connection comes with the next number, so those that have ended stay
pub stays_accepted : (was now : ℕ → ConnectionRecord) (ends : List End) (count : ℕ) → length ends ≡ count → OthersStay was now count → EndedStay was now ends
stays_accepted was now ends count counted others = λ k e there closed. others k (λ same. absurd (omega (arith, slice_get_within ends k e there, counted, same)))

-- the same ends at the end
pub rightly_to : (tells : Bool) (lines : List Paint) (desk : List Window) (connection : ℕ → ConnectionRecord) (old new new' : List End) → new' ≡ new → EndsHaveCauses tells lines desk connection old new → EndsHaveCauses tells lines desk connection old new'
rightly_to tells lines desk connection old new new' same right = subst (λ (es : List End). EndsHaveCauses tells lines desk connection old es) (sym same) right

-- an end that was there is there later
pub end_stays : (old new : List End) (k : ℕ) (e : End) → KeepsEnds old new → slice_get old k ≡ Some e → is_unended e ≡ false → slice_get new k ≡ Some e
end_stays old new k e keeps there closed =
    let before : slice_index_or old k e ≡ e = got_or old k e e there in
    let within : k < length old = slice_get_within old k e there in
    slice_get-get_or new k e (omega (arith, within, keeps.longer)) ∙ ap (λ (x : End). Some x) (keeps.stay k e within (ap is_unended before ∙ closed) ∙ before)
