-- What goes on since settling began, and the ends that a step gives.
use Rattle.std.proofs.Common.{◌≡◌, ◌≢◌, ℕ, ◌<◌, ◌≤◌, Bool, true, false, ◌⊎◌, inl, inr, Some, None, List, [], ◌∷◌, ◌++◌, length, refl, sym, ap, ◌∙◌, subst, arith}
use Rattle.std.specs.Prelude.{Option, slice_get}
use Rattle.std.proofs.lemmas.Bool.{cases_eq}
use Rattle.std.proofs.lemmas.List.{append-nil, append_assoc}
use Rattle.std.proofs.lemmas.Option.{slice_get_within}
use Rattle.xp_base.specs.Counts.{Rose, RoseOnlyIf}
use Rattle.xp_base.specs.Told.{told_append}
use Rattle.link_bay.specs.Connections.{ConnectionRecord, OthersStay, fresh_connection}
use Rattle.link_bay.specs.Answers.{ReadGives, WriteGives, is_dry}
use Rattle.link_bay.specs.declared.bay.Gave.{Gave}
use Rattle.link_bay.specs.declared.bay.Gave.TheVariants as G
use Rattle.link_bay.specs.declared.bay.Wrote.{Wrote}
use Rattle.link_bay.specs.declared.bay.Wrote.TheVariants as W
use Rattle.window_model.specs.Desktop.{Window}
use Rattle.connection_table.specs.Tables.{Slot, Open, Away, Ended}
use Rattle.connection_ends.specs.Causes.{HasCause, IsOfSteps}
use Rattle.connection_ends.specs.Laws.{GoOn, IsEarlier, CausesCountFromEarlier, OnlySettledSpeaksOfTheDesktop}
use Rattle.connection_ends.specs.declared.end.End.{End}
use Rattle.connection_ends.specs.declared.end.End.TheVariants as E
use Rattle.open_connection.specs.Connection.{ConnectionSeen}
use Rattle.connection_steps.specs.Kept.{IsToldAs, IsConnection}
use Rattle.session_steps.specs.Slots.{Slots}
use Rattle.session_steps.specs.Steady.{Phase, Stepping, Settling, EndsByStep, EndsSince, EndsIn, GoesOnSince, IsSince}
use Rattle.session_steps.proofs.Staying.{goes_same, goes_more}

-- ---- one connection's record before and after a call

pub earlier_same : (r r' : ConnectionRecord) → r' ≡ r → IsEarlier r r'
earlier_same r r' same = record {
  given = goes_same r.given r'.given (ap (λ (q : ConnectionRecord). q.given) same);
  faults = let n = ap (λ (q : ConnectionRecord). q.faults) same in omega (arith, n);
  dry = let n = ap (λ (q : ConnectionRecord). q.dry) same in omega (arith, n);
  waits = let n = ap (λ (q : ConnectionRecord). q.waits) same in omega (arith, n);
  ends = let n = ap (λ (q : ConnectionRecord). q.ends) same in omega (arith, n);
}

goes_through : (a b c : Option (List ℕ)) → GoOn a b → GoOn b c → GoOn a c
goes_through None None None p q = tt
goes_through None None (Some c) p q = q
goes_through None (Some b) c p q = absurd p
goes_through (Some a) None c p q = absurd p
goes_through (Some a) (Some b) None p q = absurd q
goes_through (Some a) (Some b) (Some c) p q = (p.0 ++ q.0, q.1 ∙ ap (λ (bytes : List ℕ). bytes ++ q.0) p.1 ∙ append_assoc a p.0 q.0)

pub earlier_through : (a b c : ConnectionRecord) → IsEarlier a b → IsEarlier b c → IsEarlier a c
earlier_through a b c p q = record {
  given = goes_through a.given b.given c.given p.given q.given;
  faults = let m = p.faults in let n = q.faults in omega (arith, m, n);
  dry = let m = p.dry in let n = q.dry in omega (arith, m, n);
  waits = let m = p.waits in let n = q.waits in omega (arith, m, n);
  ends = let m = p.ends in let n = q.ends in omega (arith, m, n);
}

-- where each field is said
earlier_by : (r r' q : ConnectionRecord) → r' ≡ q → GoOn r.given q.given → r.faults ≤ q.faults → r.dry ≤ q.dry → r.waits ≤ q.waits → r.ends ≤ q.ends → IsEarlier r r'
earlier_by r r' q is given faults dry waits ends = subst (IsEarlier r) (sym is) (record { given = given; faults = faults; dry = dry; waits = waits; ends = ends })

pub read_earlier : (r r' : ConnectionRecord) (into into' : List ℕ) (max : ℕ) (gave : Gave) → ReadGives r r' into into' max gave → IsEarlier r r'
read_earlier r r' into into' max (G.Bytes n) read =
    earlier_by r r' (record r { given = told_append r.given read.0 }) read.5 (goes_more r.given (told_append r.given read.0) read.0 refl) (omega arith) (omega arith) (omega arith) (omega arith)
read_earlier r r' into into' max G.Again read =
    earlier_by r r' (record r { waits = r'.waits; unheard = 0 }) read.2 (goes_same r.given r.given refl) (omega arith) (omega arith) read.1.later (omega arith)
read_earlier r r' into into' max G.End read =
    earlier_by r r' (record r { ends = r'.ends }) read.2 (goes_same r.given r.given refl) (omega arith) (omega arith) (omega arith) read.1.later
read_earlier r r' into into' max G.Failed read =
    earlier_by r r' (record r { faults = r'.faults }) read.2 (goes_same r.given r.given refl) read.1.later (omega arith) (omega arith) (omega arith)
read_earlier r r' into into' max G.NoMemory read = earlier_same r r' read.1

rose_no_less : (b : Bool) (n n' : ℕ) → RoseOnlyIf b n n' → n ≤ n'
rose_no_less true n n' rose = rose.later
rose_no_less false n n' same = omega (arith, same)

pub write_earlier : (r r' : ConnectionRecord) (piece : List ℕ) (wrote : Wrote) → WriteGives r r' piece wrote → IsEarlier r r'
write_earlier r r' piece (W.Took n) write = record {
  given = goes_same r.given r'.given (ap (λ (q : ConnectionRecord). q.given) write.2);
  faults = let m = ap (λ (q : ConnectionRecord). q.faults) write.2 in omega (arith, m);
  dry = rose_no_less (is_dry piece n) r.dry r'.dry write.1;
  waits = let m = ap (λ (q : ConnectionRecord). q.waits) write.2 in omega (arith, m);
  ends = let m = ap (λ (q : ConnectionRecord). q.ends) write.2 in omega (arith, m);
}
write_earlier r r' piece W.Failed write =
    earlier_by r r' (record r { faults = r'.faults }) write.1 (goes_same r.given r.given refl) write.0.later (omega arith) (omega arith) (omega arith)
write_earlier r r' piece W.NoMemory write = earlier_same r r' write

-- of a connection since it was handed out
given_at_first : (tells : Bool) (r : ConnectionRecord) (sent given heard : List ℕ) → IsToldAs tells r sent given heard → let none = fresh_connection tells in GoOn none.given r.given
given_at_first true r sent given heard told = subst (λ (o : Option (List ℕ)). GoOn (Some []) o) (sym told.1) (given, refl)
given_at_first false r sent given heard told = subst (λ (o : Option (List ℕ)). GoOn None o) (sym told.1) tt

pub fresh_earlier : (tells : Bool) (desk : List Window) (were_opened : ℕ → Bool) (k : ℕ) (r : ConnectionRecord) (c : ConnectionSeen) → IsConnection tells desk were_opened k r c → IsEarlier (fresh_connection tells) r
fresh_earlier tells desk were_opened k r c kept = record {
  given = given_at_first tells r kept.sent kept.given kept.heard kept.told;
  faults = omega arith;
  dry = omega arith;
  waits = omega arith;
  ends = omega arith;
}

-- ---- the end that a step gives to a connection that was open

pub not_settled : (e : End) → IsOfSteps e → e ≢ E.Settled
not_settled e of same = subst IsOfSteps same of

module _ (count_earlier : CausesCountFromEarlier) (any_desk : OnlySettledSpeaksOfTheDesktop) (tells : Bool) (desk : List Window) (were_opened : ℕ → Bool) (slots : Slots) (was now : ℕ → ConnectionRecord)
    (k : ℕ) (c : ConnectionSeen) (at : slice_get slots k ≡ Some (Open c)) (kept : IsConnection tells desk were_opened k (was k) c) (e : End) (of_steps : IsOfSteps e) (cause : HasCause [] was now k e) where
  cause_on : (d : List Window) → HasCause d was now k e
  cause_on d = any_desk [] d was now k e (not_settled e of_steps) cause

  at_first : (d : List Window) → HasCause d (λ j. fresh_connection tells) now k e
  at_first d = count_earlier d (λ j. fresh_connection tells) was now k e (fresh_earlier tells desk were_opened k (was k) c kept) (cause_on d)

  since : (began_desk : List Window) (began : Slots) (r : ConnectionRecord) → (k < length began → IsEarlier r (was k)) → ((e' : End) → slice_get began k ≡ Some (Ended e') → slice_get slots k ≡ Some (Ended e'))
      → (slot : Option (Slot ConnectionSeen End)) → slice_get began k ≡ slot → EndsSince tells began_desk slot r now k e
  since began_desk began r counts stays None is = at_first began_desk
  since began_desk began r counts stays (Some (Open d)) is = count_earlier began_desk (λ j. r) was now k e (counts (slice_get_within began k (Open d) is)) (cause_on began_desk)
  since began_desk began r counts stays (Some Away) is = count_earlier began_desk (λ j. r) was now k e (counts (slice_get_within began k Away is)) (cause_on began_desk)
  since began_desk began r counts stays (Some (Ended e')) is = absurd (cc (sym at ∙ stays e' is))

  pub step_ends : (phase : Phase) → IsSince phase desk slots was → EndsIn tells phase now k e
  step_ends Stepping goes = record { of_steps = of_steps; cause = at_first [] }
  step_ends (Settling began_desk began r) goes = since began_desk began (r k) (goes.1.counts k) (goes.1.ended k) (slice_get began k) refl

-- ---- what a step leaves of it

-- counts only rise, and what had ended stays so
pub since_goes : (phase : Phase) (desk : List Window) (slots slots' : Slots) (was now : ℕ → ConnectionRecord) → ((k : ℕ) → k < length slots → IsEarlier (was k) (now k))
    → ((k : ℕ) (e : End) → slice_get slots k ≡ Some (Ended e) → slice_get slots' k ≡ Some (Ended e)) → length slots ≤ length slots'
    → IsSince phase desk slots was → IsSince phase desk slots' now
since_goes Stepping desk slots slots' was now earlier stays long goes = tt
since_goes (Settling began_desk began r) desk slots slots' was now earlier stays long goes = (
  goes.0,
  record {
    longer = let before = goes.1.longer in omega (arith, before, long);
    counts = λ k low. earlier_through (r k) (was k) (now k) (goes.1.counts k low) (earlier k (let before = goes.1.longer in omega (arith, before, low)));
    ended = λ k e is. stays k e (goes.1.ended k e is);
  },
)

-- every connection but one, and that one
pub all_earlier : (was now : ℕ → ConnectionRecord) (c : ℕ) → OthersStay was now c → IsEarlier (was c) (now c) → (k : ℕ) → IsEarlier (was k) (now k)
all_earlier was now c others here k = go (cases_eq k c)
  where
    go : (k ≡ c) ⊎ (k ≢ c) → IsEarlier (was k) (now k)
    go (inl same) = subst (λ j. IsEarlier (was j) (now j)) (sym same) here
    go (inr other) = earlier_same (was k) (now k) (others k other)
