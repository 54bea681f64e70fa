-- What a change, as a client meets it, is to the desktop, and to the numbers of the windows that were opened so far.
use Rattle.std.specs.Prelude.{ℕ, ◌≡◌, Bool, false, Some, List}
use Rattle.xp_base.specs.Points.{Rectangle, LiesIn}
use Rattle.window_model.specs.Desktop.{Window, find_window, has_window, changed_window, opened, without_window, raised, moved_on, resized_on}
use Rattle.window_model.specs.Geometry.{Geometry, IsGeometry}
use Rattle.client_delivery.specs.Keeping.{IsPainted, FirstOpens}
use Rattle.attached_client.specs.declared.change.Change.{Change}
use Rattle.attached_client.specs.declared.change.Change.TheVariants as C

-- a window that was not there is on top
pub record OpensOn (g : Geometry) (desk desk' : List Window) : Type 0 where
  pub geometry : IsGeometry g
  pub new : has_window desk g.wid ≡ false
  pub is : desk' ≡ opened desk g.wid g.x g.y g.w g.h

-- a window that was there is gone
pub record ClosesOn (k : ℕ) (desk desk' : List Window) : Type 0 where
  pub window : Window
  pub found : find_window desk k ≡ Some window
  pub is : desk' ≡ without_window desk k

-- it has this place, and its size as it was
pub record MovesOn (g : Geometry) (desk desk' : List Window) : Type 0 where
  pub geometry : IsGeometry g
  pub window : Window
  pub found : find_window desk g.wid ≡ Some window
  pub wide : g.w ≡ window.w
  pub high : g.h ≡ window.h
  pub is : desk' ≡ moved_on desk g.wid g.x g.y

-- it is on top
pub record RaisesOn (k : ℕ) (desk desk' : List Window) : Type 0 where
  pub window : Window
  pub found : find_window desk k ≡ Some window
  pub is : desk' ≡ raised desk k

-- it has this size, and its place as it was
pub record ResizesOn (g : Geometry) (desk desk' : List Window) : Type 0 where
  pub geometry : IsGeometry g
  pub window : Window
  pub found : find_window desk g.wid ≡ Some window
  pub across : g.x ≡ window.x
  pub down : g.y ≡ window.y
  pub is : desk' ≡ resized_on desk g.wid g.w g.h

-- it has other pixels in a rectangle of it alone
pub record PaintsOn (k : ℕ) (r : Rectangle) (desk desk' : List Window) : Type 0 where
  pub window : Window
  pub found : find_window desk k ≡ Some window
  pub lies : LiesIn window.w window.h r
  pub window' : Window
  pub painted : IsPainted r window window'
  pub is : desk' ≡ changed_window desk k (λ w. window')

-- the desktop before and after
abbrev pub DeskChanges : Change → List Window → List Window → Type 0
DeskChanges (C.Opened g) desk desk' = OpensOn g desk desk'
DeskChanges (C.Closed k) desk desk' = ClosesOn k desk desk'
DeskChanges (C.Moved g) desk desk' = MovesOn g desk desk'
DeskChanges (C.Raised k) desk desk' = RaisesOn k desk desk'
DeskChanges (C.Damaged k r) desk desk' = PaintsOn k r desk desk'
DeskChanges (C.Resized g) desk desk' = ResizesOn g desk desk'

abbrev pub SameNumbers : (ℕ → Bool) → (ℕ → Bool) → Type 0
SameNumbers old new = (k : ℕ) → new k ≡ old k

-- the numbers opened so far, before and after: that of a new window comes to them and was none of them
abbrev pub NumbersChange : Change → (ℕ → Bool) → (ℕ → Bool) → Type 0
NumbersChange (C.Opened g) old new = FirstOpens g.wid old new
NumbersChange (C.Closed k) old new = SameNumbers old new
NumbersChange (C.Moved g) old new = SameNumbers old new
NumbersChange (C.Raised k) old new = SameNumbers old new
NumbersChange (C.Damaged k r) old new = SameNumbers old new
NumbersChange (C.Resized g) old new = SameNumbers old new
