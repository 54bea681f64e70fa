use Rattle.std.proofs.Common.{◌≡◌, ◌++◌, ◌∙◌, sym, ap, refl, drop, subst, None, List, ℕ}
use Rattle.client_connection.specs.Clients.{ClientSeen}
use Rattle.client_connection.specs.Wire.{exact_hello}
use Rattle.client_connection.specs.Hearing.{HearsMaps, IsNeither}
use Rattle.client_connection.proofs.Heard.{unhears_on, unhears_first, unhears_neither}
use Rattle.client_connection.proofs.client.Client.hear.Goals as goal

pub returns-then-self-clause-unbuilt : goal.returns-then-self-clause-unbuilt
returns-then-self-clause-unbuilt c = λ err.
    let old : ClientSeen = record { greeted = c.self.inside.greeted; maps = c.self.inside.maps; unread = c.self.inside.unread.items; sources = c.self.inside.sources.items; packets = c.self.inside.packets.items; taken = c.self.inside.taken; room = 0; next = None } in
    rw (← c.self.view_is) (unhears_on c.args.paints.now c.args.desk.now old c.args.bytes.now c.if-self.true
    (λ c' hears. c.hear_maps.ensures.unbuilt err c' (subst (λ (bs : List ℕ). HearsMaps c.args.paints.now old bs c') (sym c.in-Ok.ensures.items) hears)))

pub returns-in-Other-clause-unbuilt : goal.returns-in-Other-clause-unbuilt
returns-in-Other-clause-unbuilt c = λ err.
    let old : ClientSeen = record { greeted = c.self.inside.greeted; maps = c.self.inside.maps; unread = c.self.inside.unread.items; sources = c.self.inside.sources.items; packets = c.self.inside.packets.items; taken = c.self.inside.taken; room = 0; next = None } in
    rw (← c.self.view_is) (unhears_neither c.args.paints.now c.args.desk.now old c.args.bytes.now c.if-self.false
    (subst (λ (bs : List ℕ). IsNeither bs exact_hello) (c.as_slice.ensures.value ∙ c.in-Ok.ensures.items) (c.in-Other.ensures.other refl)))

pub returns-clause-unbuilt : goal.returns-clause-unbuilt
returns-clause-unbuilt c = λ err.
    let old : ClientSeen = record { greeted = c.self.inside.greeted; maps = c.self.inside.maps; unread = c.self.inside.unread.items; sources = c.self.inside.sources.items; packets = c.self.inside.packets.items; taken = c.self.inside.taken; room = 0; next = None } in
    let more : List ℕ = drop 39 c.extend_from_slice.new.self.items in
    let is : c.self.inside.unread.items ++ c.args.bytes.now ≡ exact_hello ++ more =
    sym c.in-Ok.ensures.items ∙ sym c.as_slice.ensures.value ∙ c.in-Whole.ensures.whole refl ∙ ap (λ (bs : List ℕ). exact_hello ++ drop 39 bs) c.as_slice.ensures.value in
    rw (← c.self.view_is) (unhears_first c.args.paints.now c.args.desk.now old c.args.bytes.now more c.if-self.false is
    (λ d hears. c.hear_maps-2.ensures.unbuilt err d (subst (λ (a : ClientSeen). HearsMaps c.args.paints.now a a.unread d) (sym c.in-Ok-attach.ensures.ok) hears)))
