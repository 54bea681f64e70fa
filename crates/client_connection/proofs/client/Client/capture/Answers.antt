use Rattle.std.proofs.Common.{◌≡◌, ◌<◌, ◌∙◌, sym, ap, refl, arith, length, Some, get_or}
use Rattle.std.specs.Prelude.{slice_get}
use Rattle.std.proofs.lemmas.Option.{slice_get-get_or}
use Rattle.client_connection.specs.Clients.{ClientSeen}
use Rattle.client_connection.specs.declared.source.Source.{Source}
use Rattle.client_connection.proofs.client.Client.capture.Goals as goal

pub returns-then-source-ge-SEQUENCE_END : goal.returns-then-source-ge-SEQUENCE_END
returns-then-source-ge-SEQUENCE_END c =
    let within : c.in-Some.place < length c.self.inside.sources.items = omega (arith, c.in-Some.ensures.within, c.deref.ensures.len) in
    let here : slice_get c.self.inside.sources.items c.in-Some.place ≡ Some c.index-source.result.now =
    slice_get-get_or c.self.inside.sources.items c.in-Some.place c.index-source.result.now within ∙ ap (λ (s : Source). Some s) (sym c.index-source.ensures) in
    rw (← c.self.view_is, ← c.window.view_is) (c.in-Some.place, c.index-source.result.now, (sym (rw (c.deref.ensures.value) at c.in-Some.ensures.place), here), c.if-not-source.false, (λ none. absurd (cc (c.if-is_empty.ensures.1 none))), omega (arith, c.if-source-ge-SEQUENCE_END.true), refl)

pub returns-in-Ok : goal.returns-in-Ok
returns-in-Ok c =
    let within : c.in-Some.place < length c.self.inside.sources.items = omega (arith, c.in-Some.ensures.within, c.deref.ensures.len) in
    let here : slice_get c.self.inside.sources.items c.in-Some.place ≡ Some c.index-source.result.now =
    slice_get-get_or c.self.inside.sources.items c.in-Some.place c.index-source.result.now within ∙ ap (λ (s : Source). Some s) (sym c.index-source.ensures) in
    rw (← c.self.view_is, ← c.window.view_is) (c.in-Some.place, c.index-source.result.now, (sym (rw (c.deref.ensures.value) at c.in-Some.ensures.place), here), c.if-not-source.false, (λ none. absurd (cc (c.if-is_empty.ensures.1 none))), omega (arith, c.if-source-ge-SEQUENCE_END.false), refl, rw (← c.self.view_is, ← c.window.view_is) at (c.in-Ok.ensures.ok c.index-source.result.now (c.index-source.ensures ∙ ap (λ (s : ClientSeen). get_or s.sources c.in-Some.place c.index-source.result.now) c.self.view_is)))

pub returns-in-Err : goal.returns-in-Err
returns-in-Err c =
    let within : c.in-Some.place < length c.self.inside.sources.items = omega (arith, c.in-Some.ensures.within, c.deref.ensures.len) in
    let here : slice_get c.self.inside.sources.items c.in-Some.place ≡ Some c.index-source.result.now =
    slice_get-get_or c.self.inside.sources.items c.in-Some.place c.index-source.result.now within ∙ ap (λ (s : Source). Some s) (sym c.index-source.ensures) in
    rw (← c.self.view_is, ← c.window.view_is) (c.in-Some.place, c.index-source.result.now, (sym (rw (c.deref.ensures.value) at c.in-Some.ensures.place), here), c.if-not-source.false, (λ none. absurd (cc (c.if-is_empty.ensures.1 none))), omega (arith, c.if-source-ge-SEQUENCE_END.false), rw (← c.self.view_is) at c.in-Err.ensures.err)
