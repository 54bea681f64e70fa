use Rattle.std.proofs.Common.{◌≡◌, ◌+◌, ◌≤◌, inl, inr, refl, sym, ap, ◌∙◌, subst, arith}
use Rattle.xp_base.specs.Points.{Rectangle}
use Rattle.window_model.specs.Drawing.{put_at}
use Rattle.window_model.specs.Desktop.{IsDesktop, placed_on}
use Rattle.window_model.proofs.Desktops.{fits_in_window, copied_by}
use Rattle.window_model.proofs.desk.Desk.copy.Goals as goal

pub unreachable-requires : goal.unreachable-requires
unreachable-requires c =
    let r : Rectangle = record { x = c.r.inside.x; y = c.r.inside.y; w = c.r.inside.w; h = c.r.inside.h } in
    let same : r ≡ c.args.r = c.r.view_is in
    let is : IsDesktop c.args.self.now = subst IsDesktop c.self.view_is c.self.invariant in
    let fits = fits_in_window c.args.self.now c.args.wid (put_at c.args.x c.args.y c.args.r) is c.requires.target in
    let across : c.args.x + r.w ≤ 4096 = subst (λ (z : Rectangle). c.args.x + z.w ≤ 4096) (sym same) fits.0 in
    let down : c.args.y + r.h ≤ 4096 = subst (λ (z : Rectangle). c.args.y + z.h ≤ 4096) (sym same) fits.1 in
    elim (c.in_default.ensures.none.0 refl) [
      | inl flat ↦ omega (arith, flat, c.r.invariant.wide)
      | inr rest ↦ elim rest [
        | inl flat ↦ omega (arith, flat, c.r.invariant.high)
        | inr far ↦ elim far [ inl right ↦ omega (arith, right, across) | inr low ↦ omega (arith, low, down) ]
      ]
    ]

pub returns-clause-ok : goal.returns-clause-ok
returns-clause-ok c =
    let r : Rectangle = record { x = c.r.inside.x; y = c.r.inside.y; w = c.r.inside.w; h = c.r.inside.h } in
    let same : r ≡ c.args.r = c.r.view_is in
    let is : IsDesktop c.args.self.now = subst IsDesktop c.self.view_is c.self.invariant in
    let target : c.in-Some.target ≡ put_at c.args.x c.args.y c.args.r = c.in-Some.ensures.some ∙ ap (put_at c.args.x c.args.y) same in
    c.put.ensures
    ∙ ap (λ q. placed_on c.args.self.now c.args.wid q c.in_ok-pixels.pixels) target
    ∙ copied_by c.args.self.now c.args.wid c.args.r c.args.x c.args.y c.in_ok-pixels.pixels is c.in_ok-pixels.ensures.value
