use Rattle.std.proofs.Common.{arith, ◌≡◌, ◌≤◌, ◌∷◌, ◌++◌, [], List, All, length, map, subst, sym, ap, ◌∙◌, refl}
use Rattle.std.proofs.lemmas.Grind.{common_steps}
use Rattle.std.proofs.lemmas.List.{length-append}
use Rattle.link_bay.specs.declared.inbound.Inbound.{Inbound}
use Rattle.link_bay.specs.Tapes.{Tape, TapeProvider, tape_of}
use Rattle.link_bay.proofs.TapeLemmas.{all_behind, accepted_lengths, tapes_accepted, played_last, played_others}
use Rattle.link_bay.proofs.tape_bay.TapeBayBay.accept.Goals as goal

pub invariant_of-self-2 : goal.invariant_of-self-2
invariant_of-self-2 c =
    let split : c.self.inside.waiting.items ≡ c.in-Some.tape ∷ c.pop_front.new.self.items = c.in-Some.ensures.items in
    let pushed : c.push_reserved.new.self.items ≡ c.self.inside.played.items ++ c.new.result ∷ [] = c.push_reserved.ensures.items ∙ ap (λ ps. ps ++ c.new.result ∷ []) c.reserve.ensures.items in (
      accepted_lengths _ _ _ _ _ _ _ split pushed c.self.invariant.0,
      all_behind (λ (i : Inbound). 1 ≤ i.piece) c.in-Some.tape c.pop_front.new.self.items (subst (All (λ (i : Inbound). 1 ≤ i.piece)) split c.self.invariant.1),
    )

pub returns-clause-exact : goal.returns-clause-exact
returns-clause-exact c =
    let split : c.self.inside.waiting.items ≡ c.in-Some.tape ∷ c.pop_front.new.self.items = c.in-Some.ensures.items in
    let pushed : c.push_reserved.new.self.items ≡ c.self.inside.played.items ++ c.new.result ∷ [] = c.push_reserved.ensures.items ∙ ap (λ ps. ps ++ c.new.result ∷ []) c.reserve.ensures.items in
    let b : TapeProvider = record {
      waiting = map tape_of c.self.inside.waiting.items;
      played = c.self.inside.played.items;
      failing = c.self.inside.failing.items;
      accepts = c.self.inside.accepts;
      faults = c.self.inside.faults;
      lulls = c.self.inside.lulls;
    } in
    rw (← c.self.view_is) (
      grind (arith, common_steps),
      grind (arith, common_steps),
      tape_of c.in-Some.tape,
      map tape_of c.pop_front.new.self.items,
      ap (map tape_of) split,
      tapes_accepted b (tape_of c.in-Some.tape) (map tape_of c.pop_front.new.self.items) c.push_reserved.new.self.items c.new.result c.saturating_add-self-inside.result pushed c.new.ensures c.saturating_add-self-inside.ensures,
    )

pub returns-clause-answer : goal.returns-clause-answer
returns-clause-answer c =
    let split : c.self.inside.waiting.items ≡ c.in-Some.tape ∷ c.pop_front.new.self.items = c.in-Some.ensures.items in
    let pushed : c.push_reserved.new.self.items ≡ c.self.inside.played.items ++ c.new.result ∷ [] = c.push_reserved.ensures.items ∙ ap (λ ps. ps ++ c.new.result ∷ []) c.reserve.ensures.items in
    let fewer : length (map tape_of c.self.inside.waiting.items) ≡ length (tape_of c.in-Some.tape ∷ map tape_of c.pop_front.new.self.items) = ap (λ is. length (map tape_of is)) split in
    let more = ap length pushed ∙ length-append c.self.inside.played.items (c.new.result ∷ []) in
    rw (← c.self.view_is) (
      grind (arith, common_steps),
      omega (arith, fewer),
      rw more refl,
      played_last c.self.inside.played.items c.push_reserved.new.self.items (tape_of c.in-Some.tape) c.new.result pushed c.new.ensures,
    )

pub returns-clause-others : goal.returns-clause-others
returns-clause-others c =
    let pushed : c.push_reserved.new.self.items ≡ c.self.inside.played.items ++ c.new.result ∷ [] = c.push_reserved.ensures.items ∙ ap (λ ps. ps ++ c.new.result ∷ []) c.reserve.ensures.items in
    rw (← c.self.view_is) (λ d other. played_others c.self.inside.played.items c.push_reserved.new.self.items c.new.result d pushed other)
