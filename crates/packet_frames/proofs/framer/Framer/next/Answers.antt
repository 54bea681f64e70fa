use Rattle.std.proofs.Common.{◌≡◌, ◌+◌, ◌*◌, ◌<◌, true, [], length, drop, sym, ap, ◌∙◌, subst, arith}
use Rattle.std.specs.Prelude.{is_some, slice_range}
use Rattle.std.proofs.lemmas.List.{append-nil, drop-drop, length-drop}
use Rattle.packet_frames.specs.declared.next.Next.TheVariants as N
use Rattle.packet_frames.specs.Framing.{part, whole, wrong, begins}
use Rattle.packet_frames.specs.Begins.{BeginsAs}
use Rattle.packet_frames.specs.Following.{Framing, Gives}
use Rattle.packet_frames.proofs.Frames.{to_end}
use Rattle.packet_frames.proofs.Fronts.{begins-front}
use Rattle.packet_frames.proofs.Follows.{framing, gives_need, gives_bad, gives_again, gives_packet, tells, no_fault}
use Rattle.packet_frames.proofs.framer.Framer.next.Goals as goal

pub returns-in-Some-clause-gives : goal.returns-in-Some-clause-gives
returns-in-Some-clause-gives c =
    subst (λ f. Gives f (N.Bad c.in-Some.place c.in-Some.fault) f) c.self.view_is
    (gives_again c.self.inside.limit c.self.inside.start (drop c.self.inside.taken c.self.inside.buffer.items) c.self.inside.fault c.in-Some.place c.in-Some.fault c.self.invariant.told c.in-Some.is)

pub returns-in-Some-clause-history : goal.returns-in-Some-clause-history
returns-in-Some-clause-history c = λ bytes given h. tells bytes given c.args.self.now (N.Bad c.in-Some.place c.in-Some.fault) c.args.self.now (returns-in-Some-clause-gives c) h

pub returns-then-self-gt0-clause-gives : goal.returns-then-self-gt0-clause-gives
returns-then-self-gt0-clause-gives c =
    subst (λ f. Gives f N.Need f) c.self.view_is
    (gives_need c.self.inside.limit c.self.inside.start (drop c.self.inside.taken c.self.inside.buffer.items) (is_some c.self.inside.fault)
    (ap (begins c.self.inside.limit) (sym (append-nil (drop c.self.inside.taken c.self.inside.buffer.items))) ∙ c.self.invariant.waits [] (omega (arith, c.if-self-gt0.true))))

pub returns-then-self-gt0-clause-history : goal.returns-then-self-gt0-clause-history
returns-then-self-gt0-clause-history c = λ bytes given h. tells bytes given c.args.self.now N.Need c.args.self.now (returns-then-self-gt0-clause-gives c) h

pub overflow_add-self : goal.overflow_add-self
overflow_add-self c =
    let front = (begins-front c.self.inside.limit (slice_range c.deref.result.now c.self.inside.taken (length c.deref.result.now)) c.in-Ok-Whole.at c.in-Ok-Whole.value c.in-Ok-Whole.size (subst (BeginsAs c.self.inside.limit (slice_range c.deref.result.now c.self.inside.taken (length c.deref.result.now))) c.in-Ok-Whole.field-0-is c.in-Ok-Whole.ensures)).within in
    let size = ap length (to_end c.deref.result.now c.self.inside.taken) ∙ length-drop c.self.inside.taken c.deref.result.now in
    omega (arith, c.deref.ensures.len)

pub invariant_of-self : goal.invariant_of-self
invariant_of-self c =
    let front = (begins-front c.self.inside.limit (slice_range c.deref.result.now c.self.inside.taken (length c.deref.result.now)) c.in-Ok-Whole.at c.in-Ok-Whole.value c.in-Ok-Whole.size (subst (BeginsAs c.self.inside.limit (slice_range c.deref.result.now c.self.inside.taken (length c.deref.result.now))) c.in-Ok-Whole.field-0-is c.in-Ok-Whole.ensures)).within in
    let size = ap length (to_end c.deref.result.now c.self.inside.taken) ∙ length-drop c.self.inside.taken c.deref.result.now in
    record {
      within = omega (arith, c.deref.ensures.len);
      waits = λ next less. absurd (omega (arith, c.if-self-gt0.false));
      room = λ more. absurd (omega (arith, c.if-self-gt0.false));
      told = no_fault c.self.inside.limit c.saturating_add-self-inside.result (drop (c.self.inside.taken + c.in-Ok-Whole.size) c.self.inside.buffer.items) c.self.inside.fault c.in_default.not-Some;
    }

pub returns-in-Ok-Whole-clause-gives : goal.returns-in-Ok-Whole-clause-gives
returns-in-Ok-Whole-clause-gives c =
    let new : Framing = framing c.self.inside.limit c.saturating_add-self-inside.result (drop (c.self.inside.taken + c.in-Ok-Whole.size) c.self.inside.buffer.items) (is_some c.self.inside.fault) in
    let here : begins c.self.inside.limit (drop c.self.inside.taken c.self.inside.buffer.items) ≡ whole c.in-Ok-Whole.at c.in-Ok-Whole.value c.in-Ok-Whole.size =
    ap (begins c.self.inside.limit) (sym (to_end c.deref.result.now c.self.inside.taken ∙ ap (drop c.self.inside.taken) c.deref.ensures.value)) ∙ (subst (BeginsAs c.self.inside.limit (slice_range c.deref.result.now c.self.inside.taken (length c.deref.result.now))) c.in-Ok-Whole.field-0-is c.in-Ok-Whole.ensures) in
    subst (λ f. Gives f (N.Packet c.saturating_add-place.result c.in-Ok-Whole.value) new) c.self.view_is
    (subst (λ rest. Gives (framing c.self.inside.limit c.self.inside.start (drop c.self.inside.taken c.self.inside.buffer.items) (is_some c.self.inside.fault)) (N.Packet c.saturating_add-place.result c.in-Ok-Whole.value)
    (framing c.self.inside.limit c.saturating_add-self-inside.result rest (is_some c.self.inside.fault))) (drop-drop c.in-Ok-Whole.size c.self.inside.taken c.self.inside.buffer.items)
    (gives_packet c.self.inside.limit c.self.inside.start (drop c.self.inside.taken c.self.inside.buffer.items) (is_some c.self.inside.fault)
    c.in-Ok-Whole.at c.saturating_add-place.result c.saturating_add-self-inside.result c.in-Ok-Whole.value c.in-Ok-Whole.size here c.saturating_add-place.ensures c.saturating_add-self-inside.ensures))

pub returns-in-Ok-Whole-clause-history : goal.returns-in-Ok-Whole-clause-history
returns-in-Ok-Whole-clause-history c = λ bytes given h. tells bytes given c.args.self.now (N.Packet c.saturating_add-place.result c.in-Ok-Whole.value)
    (framing c.self.inside.limit c.saturating_add-self-inside.result (drop (c.self.inside.taken + c.in-Ok-Whole.size) c.self.inside.buffer.items) (is_some c.self.inside.fault)) (returns-in-Ok-Whole-clause-gives c) h

pub returns-in-Ok-Wrong-clause-gives : goal.returns-in-Ok-Wrong-clause-gives
returns-in-Ok-Wrong-clause-gives c =
    let here : begins c.self.inside.limit (drop c.self.inside.taken c.self.inside.buffer.items) ≡ wrong c.in-Ok-Wrong.at c.in-Ok-Wrong.fault =
    ap (begins c.self.inside.limit) (sym (to_end c.deref.result.now c.self.inside.taken ∙ ap (drop c.self.inside.taken) c.deref.ensures.value)) ∙ (subst (BeginsAs c.self.inside.limit (slice_range c.deref.result.now c.self.inside.taken (length c.deref.result.now))) c.in-Ok-Wrong.field-0-is c.in-Ok-Wrong.ensures) in
    subst (λ f. Gives f (N.Bad c.saturating_add-place-in-Ok-Wrong.result c.in-Ok-Wrong.fault) (framing c.self.inside.limit c.self.inside.start (drop c.self.inside.taken c.self.inside.buffer.items) true)) c.self.view_is
    (gives_bad c.self.inside.limit c.self.inside.start (drop c.self.inside.taken c.self.inside.buffer.items) (is_some c.self.inside.fault) c.in-Ok-Wrong.at c.saturating_add-place-in-Ok-Wrong.result c.in-Ok-Wrong.fault here c.saturating_add-place-in-Ok-Wrong.ensures)

pub returns-in-Ok-Wrong-clause-history : goal.returns-in-Ok-Wrong-clause-history
returns-in-Ok-Wrong-clause-history c = λ bytes given h. tells bytes given c.args.self.now (N.Bad c.saturating_add-place-in-Ok-Wrong.result c.in-Ok-Wrong.fault)
    (framing c.self.inside.limit c.self.inside.start (drop c.self.inside.taken c.self.inside.buffer.items) true) (returns-in-Ok-Wrong-clause-gives c) h

pub returns-in-Ok-Part-clause-gives : goal.returns-in-Ok-Part-clause-gives
returns-in-Ok-Part-clause-gives c =
    let here : begins c.self.inside.limit (drop c.self.inside.taken c.self.inside.buffer.items) ≡ part =
    ap (begins c.self.inside.limit) (sym (to_end c.deref.result.now c.self.inside.taken ∙ ap (drop c.self.inside.taken) c.deref.ensures.value) ∙ sym (append-nil _)) ∙ (subst (BeginsAs c.self.inside.limit (slice_range c.deref.result.now c.self.inside.taken (length c.deref.result.now))) c.in-Ok-Part.field-0-is c.in-Ok-Part.ensures).1 [] (let more = (subst (BeginsAs c.self.inside.limit (slice_range c.deref.result.now c.self.inside.taken (length c.deref.result.now))) c.in-Ok-Part.field-0-is c.in-Ok-Part.ensures).0 in omega arith) in
    subst (λ f. Gives f N.Need (framing c.self.inside.limit c.self.inside.start (drop c.self.inside.taken c.self.inside.buffer.items) (is_some c.self.inside.fault))) c.self.view_is
    (gives_need c.self.inside.limit c.self.inside.start (drop c.self.inside.taken c.self.inside.buffer.items) (is_some c.self.inside.fault) here)

pub returns-in-Ok-Part-clause-history : goal.returns-in-Ok-Part-clause-history
returns-in-Ok-Part-clause-history c = λ bytes given h. tells bytes given c.args.self.now N.Need
    (framing c.self.inside.limit c.self.inside.start (drop c.self.inside.taken c.self.inside.buffer.items) (is_some c.self.inside.fault)) (returns-in-Ok-Part-clause-gives c) h

pub returns-in-Ok-Part-clause-short : goal.returns-in-Ok-Part-clause-short
returns-in-Ok-Part-clause-short c =
    let part = subst (BeginsAs c.self.inside.limit (slice_range c.deref.result.now c.self.inside.taken (length c.deref.result.now))) c.in-Ok-Part.field-0-is c.in-Ok-Part.ensures in
    let more = part.0 in let room = part.2 in
    let same = ap length (to_end c.deref.result.now c.self.inside.taken ∙ ap (drop c.self.inside.taken) c.deref.ensures.value) in
    omega arith

pub returns-then-self-gt0-clause-short : goal.returns-then-self-gt0-clause-short
returns-then-self-gt0-clause-short c =
    let room = c.self.invariant.room c.if-self-gt0.true in
    subst (λ (f : Framing). length f.rest < 5 * (f.limit + 8)) c.self.view_is (omega (arith, c.if-self-gt0.true))
