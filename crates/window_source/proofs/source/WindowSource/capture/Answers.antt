use Rattle.std.proofs.Common.{◌≡◌, ℕ, ◌<◌, [], None, Bool, List, sym, ◌∙◌, ap, arith}
use Rattle.std.proofs.lemmas.Bool.Decides.{nat_tests}
use Rattle.delivery_model.specs.Window.{Packet, Window}
use Rattle.delivery_model.specs.Refusals.{is_busy as busy_with}
use Rattle.client_outbox.specs.Reliefs.{is_busy}
use Rattle.window_source.specs.Source.{SourceSeen, window_of}
use Rattle.window_source.proofs.CapturingLemmas.{Allows, allows, packets_for, packets_busy}
use Rattle.window_source.proofs.source.WindowSource.capture.Goals as goal

pub take-requires-clause-small : goal.take-requires-clause-small
take-requires-clause-small g c =
    let packets : List Packet = packets_for c.busy-busy.result in
    let window : Window = window_of c.args.self.now [] None packets in
    let allowed : Allows window c.args.first.0 = allows c.args.mode c.args.now c.args.weight c.args.first.0 window (c.in_default.ensures packets (packets_busy c.busy-busy.result)) in
    grind (arith, nat_tests, allowed.small)

pub returns-in-Ok-clause-source : goal.returns-in-Ok-clause-source
returns-in-Ok-clause-source g c =
    let takes = c.in-Ok.ensures.ok in
    let busy : is_busy c.args.self.now.wid c.args.out.now.waiting.packets ≡ c.busy-busy.result = sym (c.busy-busy.ensures ∙ ap (λ (s : SourceSeen). is_busy s.wid c.args.out.now.waiting.packets) c.self.view_is) in
    record {
      takes = takes;
      planned = λ packets is.
          let window : Window = window_of c.args.self.now [] None packets in
          let allowed : Allows window c.args.first.0 = allows c.args.mode c.args.now c.args.weight c.args.first.0 window (c.in_default.ensures packets (is ∙ busy)) in
          record {
            unclean = allowed.unclean;
            planned = record { within = takes.planned.within; apart = takes.planned.apart; covers = takes.planned.covers; lossy = takes.planned.lossy; refresh = takes.planned.refresh };
          };
    }
