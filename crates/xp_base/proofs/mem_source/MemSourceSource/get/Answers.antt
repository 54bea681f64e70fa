use Rattle.std.proofs.Common.{arith, ◌≡◌, ◌∙◌, take, drop, sym, ap}
use Rattle.std.proofs.lemmas.Grind.{common_steps}
use Rattle.xp_base.specs.Memory.{MemoryInput}
use Rattle.xp_base.proofs.Pieces.{drop-piece}
use Rattle.xp_base.proofs.mem_source.MemSourceSource.get.Goals as goal

pub returns-clause-answer : goal.returns-clause-answer
returns-clause-answer c =
    let left : c.args.self.now.left ≡ drop c.self.inside.place c.self.inside.bytes.items = ap (λ (m : MemoryInput). m.left) (sym c.self.view_is) in
    let faults : c.self.inside.faults ≡ c.args.self.now.faults = ap (λ (m : MemoryInput). m.faults) c.self.view_is in (
      take c.min-count.result (drop c.self.inside.place c.self.inside.bytes.items),
      grind (arith, common_steps),
      omega arith,
      omega arith,
      grind (arith, common_steps),
      left ∙ drop-piece c.self.inside.bytes.items c.self.inside.place c.min-count.result,
      faults,
    )
