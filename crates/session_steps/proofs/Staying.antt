-- What stays of other connections, whatever becomes of one of them.
use Rattle.std.proofs.Common.{◌≡◌, ◌≢◌, ℕ, ◌<◌, ◌≤◌, Bool, Some, None, List, [], ◌++◌, refl, sym, ap, ◌∙◌, subst, arith}
use Rattle.std.specs.Prelude.{Option, slice_get}
use Rattle.std.proofs.lemmas.List.{append-nil}
use Rattle.xp_base.specs.Told.{told_append}
use Rattle.link_bay.specs.Connections.{ConnectionRecord, fresh_connection}
use Rattle.window_model.specs.Desktop.{Window}
use Rattle.connection_table.specs.Tables.{Slot, Open, Away, Ended}
use Rattle.connection_ends.specs.declared.end.End.{End}
use Rattle.connection_ends.specs.declared.end.End.TheVariants as E
use Rattle.connection_ends.specs.Laws.{GoOn, TakerGoesOn, CausesStay}
use Rattle.open_connection.specs.Connection.{ConnectionSeen}
use Rattle.connection_steps.specs.Kept.{IsConnection}
use Rattle.session_steps.specs.Steady.{Phase, Stepping, Settling, TakerIsKnown, EndsByStep, EndsSince, EndsIn, HasEnded, IsSlot}

-- bytes given stay, with more perhaps
pub goes_same : (o o' : Option (List ℕ)) → o' ≡ o → GoOn o o'
goes_same None None same = tt
goes_same None (Some bytes) same = absurd (cc same)
goes_same (Some bytes) None same = absurd (cc same)
goes_same (Some bytes) (Some bytes') same = ([], (let alike : bytes' ≡ bytes = cc same in alike) ∙ sym (append-nil bytes))

pub goes_more : (o o' : Option (List ℕ)) (more : List ℕ) → o' ≡ told_append o more → GoOn o o'
goes_more None None more same = tt
goes_more None (Some bytes) more same = absurd (cc same)
goes_more (Some bytes) None more same = absurd (cc same)
goes_more (Some bytes) (Some bytes') more same = (more, let alike : bytes' ≡ bytes ++ more = cc same in alike)

-- every connection handed out goes on
abbrev pub AllGoOn : ℕ → (ℕ → ConnectionRecord) → (ℕ → ConnectionRecord) → Type 0
AllGoOn count was now = (j : ℕ) → j < count → GoOn (was j).given (now j).given

taker_goes : (was now : ℕ → ConnectionRecord) (count : ℕ) (e : End) → AllGoOn count was now → TakerIsKnown count e → TakerGoesOn was now e
taker_goes was now count E.Settled on low = tt
taker_goes was now count E.Left on low = tt
taker_goes was now count (E.Refused fault) on low = tt
taker_goes was now count (E.Broken place fault) on low = tt
taker_goes was now count (E.TakenOver c) on low = on c.0 low
taker_goes was now count E.LinkFault on low = tt
taker_goes was now count E.Stalled on low = tt
taker_goes was now count E.Flooded on low = tt
taker_goes was now count E.Silent on low = tt
taker_goes was now count E.Short on low = tt
taker_goes was now count E.Unended on low = tt

taker_known : (count count' : ℕ) (e : End) → count ≤ count' → TakerIsKnown count e → TakerIsKnown count' e
taker_known count count' E.Settled more low = tt
taker_known count count' E.Left more low = tt
taker_known count count' (E.Refused fault) more low = tt
taker_known count count' (E.Broken place fault) more low = tt
taker_known count count' (E.TakenOver c) more low = omega (arith, more, low)
taker_known count count' E.LinkFault more low = tt
taker_known count count' E.Stalled more low = tt
taker_known count count' E.Flooded more low = tt
taker_known count count' E.Silent more low = tt
taker_known count count' E.Short more low = tt
taker_known count count' E.Unended more low = tt

module _ (stay : CausesStay) (tells : Bool) (phase : Phase) (desk : List Window) (were_opened : ℕ → Bool) (was now : ℕ → ConnectionRecord) (count count' : ℕ) (on : AllGoOn count was now) (more : count ≤ count') where
  step_stays : (k : ℕ) (e : End) → now k ≡ was k → TakerGoesOn was now e → EndsByStep tells was k e → EndsByStep tells now k e
  step_stays k e same goes ends = record { of_steps = ends.of_steps; cause = stay [] (λ j. fresh_connection tells) was now k e same goes ends.cause }

  since_stays : (began_desk : List Window) (slot : Option (Slot ConnectionSeen End)) (r : ConnectionRecord) (k : ℕ) (e : End) → now k ≡ was k → TakerGoesOn was now e
      → EndsSince tells began_desk slot r was k e → EndsSince tells began_desk slot r now k e
  since_stays began_desk None r k e same goes ends = stay began_desk (λ j. fresh_connection tells) was now k e same goes ends
  since_stays began_desk (Some (Open c)) r k e same goes ends = stay began_desk (λ j. r) was now k e same goes ends
  since_stays began_desk (Some Away) r k e same goes ends = stay began_desk (λ j. r) was now k e same goes ends
  since_stays began_desk (Some (Ended earlier)) r k e same goes ends = (ends.0, step_stays k e same goes ends.1)

  in_stays : (p : Phase) (k : ℕ) (e : End) → now k ≡ was k → TakerGoesOn was now e → EndsIn tells p was k e → EndsIn tells p now k e
  in_stays Stepping k e same goes ends = step_stays k e same goes ends
  in_stays (Settling began_desk began r) k e same goes ends = since_stays began_desk (slice_get began k) (r k) k e same goes ends

  pub ended_stays : (k : ℕ) (e : End) → now k ≡ was k → HasEnded tells phase was count k e → HasEnded tells phase now count' k e
  ended_stays k e same ended = record {
    taker = taker_known count count' e more ended.taker;
    cause = in_stays phase k e same (taker_goes was now count e on ended.taker) ended.cause;
  }

  pub slot_stays : (k : ℕ) (slot : Slot ConnectionSeen End) → now k ≡ was k → IsSlot tells phase desk were_opened was count k slot → IsSlot tells phase desk were_opened now count' k slot
  slot_stays k (Open c) same kept = subst (λ (r : ConnectionRecord). IsConnection tells desk were_opened k r c) (sym same) kept
  slot_stays k Away same kept = kept
  slot_stays k (Ended e) same kept = ended_stays k e same kept
