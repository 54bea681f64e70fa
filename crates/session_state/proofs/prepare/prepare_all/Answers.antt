use Rattle.std.proofs.Common.{◌≡◌, ℕ, Option, List, [], ◌∷◌, ◌++◌, length, sym, ap, ◌∙◌, subst, arith}
use Rattle.attached_client.specs.declared.change.Prepared.{Prepared}
use Rattle.connection_table.specs.Tables.{open_at}
use Rattle.session_state.specs.Painting.{IsMadeOf, AreMade, OtherSlotsStay}
use Rattle.session_state.proofs.Sets.{append_long}
use Rattle.session_state.proofs.Carrying.{made_more}
use Rattle.session_state.proofs.prepare.prepare_all.Goals as goal

pub loop-number-preserved : goal.loop-number-preserved
loop-number-preserved c =
    let kept = c.loop-number.invariant in
    let change = c.args.change.now in
    let now = c.args.now in
    let made = c.loop-number.made.items in
    let more = c.in_ok-prepare_one.field-0 in
    let slots = c.prepare_one.new.table.slots in
    let items : c.push.new.self.items ≡ made ++ more ∷ [] = c.in_ok-push.ensures.items in (
      c.prepare_one.ensures.same ∙ kept.0,
      (let long = ap (λ (ps : List (Option (Option Prepared))). length ps) items ∙ append_long made more in let count = kept.1 in omega (arith, long, count)),
      subst (AreMade change now slots) (sym items) (made_more change now c.loop-number.table.slots slots made more kept.2
          (subst (λ (k : ℕ). OtherSlotsStay k c.loop-number.table.slots slots) (sym kept.1) c.prepare_one.ensures.others)
          (subst (λ (k : ℕ). IsMadeOf change now (open_at slots k) more) (sym kept.1) c.in_ok-prepare_one.ensures.made)),
      (let low = c.loop-number-test.true in omega (arith, low)),
      kept.4,
    )
