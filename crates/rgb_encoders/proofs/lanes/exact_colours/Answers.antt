use Rattle.std.proofs.Common.{◌<◌, ◌^◌, refl, ap, sym, ◌∙◌, subst, arith}
use Rattle.std.proofs.lemmas.List.{take_all}
use Rattle.std.specs.List.{AllByRecursion}
use Rattle.xp_base.specs.declared.coding.Coding.TheVariants.{Exact}
use Rattle.rgb_encoders.proofs.Rows.{all_bytes, colours_small}
use Rattle.rgb_encoders.proofs.Vectors.{exact_words, exact_colours_of}
use Rattle.rgb_encoders.proofs.lanes.exact_colours.Goals as goal

pub returns-clause-colours : goal.returns-clause-colours
returns-clause-colours c =
    ap exact_colours_of (take_all 64 c.args.bytes.now (omega arith))
    ∙ exact_words 16 c.args.bytes.now c.requires (all_bytes c.args.bytes.now c.type_inv.bytes)

pub returns-clause-small : goal.returns-clause-small
returns-clause-small c =
    subst (AllByRecursion (λ n. n < 2 ^ 24)) (sym (returns-clause-colours c)) (colours_small Exact 16 c.args.bytes.now (all_bytes c.args.bytes.now c.type_inv.bytes))

pub returns-clause-sized : goal.returns-clause-sized
returns-clause-sized c = refl
