use Rattle.std.proofs.Common.{◌≡◌, ℕ, ◌+◌, ◌-◌, ◌<◌, List, [], ◌∷◌, ◌++◌, length, sym, ap, ◌∙◌, arith}
use Rattle.std.proofs.lemmas.List.{length_push}
use Rattle.window_model.specs.Generator.{next_state, colour_of, noise}
use Rattle.window_model.proofs.Drawings.{noise-more}
use Rattle.window_model.proofs.generator.noise_pixels.Goals as goal

pub loop-generator-preserved : goal.loop-generator-preserved
loop-generator-preserved c =
    let items : List ℕ = c.loop-generator.pixels.items in
    let state : ℕ = c.loop-generator.generator in
    let rest : ℕ = c.args.count - length items in
    let some : 0 < rest = omega (arith, c.loop-generator-test.true, c.len.ensures, c.loop-generator.pixels.ok.0) in
    let new : List ℕ = c.push.new.self.items in
    let same : new ≡ items ++ colour_of (next_state state) ∷ [] = c.in_ok-push.ensures.items ∙ ap (λ z. items ++ z ∷ []) c.next_pixel.ensures.value in
    let longer : length new ≡ length items + 1 = omega (arith, ap length same ∙ length_push items (colour_of (next_state state))) in
    let left : rest - 1 ≡ c.args.count - length new = omega (arith, longer) in
    record {
      most = omega (arith, longer, some);
      made =
          noise-more (noise c.args.seed c.args.count) items state rest some c.loop-generator.invariant.made
          ∙ ap (λ (z : List ℕ). z ++ noise (next_state state) (rest - 1)) (sym same)
          ∙ ap (λ z. new ++ noise z (rest - 1)) (sym c.next_pixel.ensures.state)
          ∙ ap (λ z. new ++ noise c.next_pixel.new.self z) left;
    }
