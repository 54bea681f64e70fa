-- What is owed lies on the desktop, and is owed to a client whose hello was accepted.
use Rattle.std.proofs.Common.{◌≡◌, ◌⊎◌, inl, inr, ℕ, Bool, true, false, ◌&&◌, ◌||◌, List, [], ◌∷◌, Option, Some, None, refl, sym, ap, ◌∙◌}
use Rattle.std.specs.Prelude.{All, is_some}
use Rattle.std.specs.List.{list_any}
use Rattle.std.proofs.lemmas.List.Elements.{All-head, All-tail}
use Rattle.window_model.specs.Desktop.{Window, IsDesktop, find_window}
use Rattle.xp_base.specs.Points.{is_within}
use Rattle.delivery_model.specs.Window.{Packet as Waiting, NewWindow, WindowResized, Draws}
use Rattle.delivery_model.specs.Kept.{PacketFits}
use Rattle.delivery_model.specs.Grids.{has}
use Rattle.delivery_model.specs.Owed.{packets_relieve}
use Rattle.client_connection.specs.declared.packet.Packet.{Packet}
use Rattle.client_connection.specs.declared.source.Source.{Source}
use Rattle.client_connection.specs.PointSets.{has as has_point}
use Rattle.client_connection.specs.Clients.{ClientSeen}
use Rattle.client_connection.specs.Owed.{draw_relieves, source_owes, client_owes}
use Rattle.client_connection.specs.Changes.{on_desk}
use Rattle.client_connection.specs.Delivery.{waiting_on, find_source}
use Rattle.client_connection.specs.Told.{IsDelivered, IsTold}
use Rattle.client_connection.proofs.Sources.{source_where}
use Rattle.client_connection.proofs.Shown.{relieves_as}
use Rattle.client_connection.proofs.Owing.{any_found, none_found, desk_found, sources_distinct}

both : (a b : Bool) → (a && b) ≡ true → a ≡ true
both true b on = refl
both false b on = on

-- what the waiting packets of a window relieve lies in it
relieved_within : (wide high x y : ℕ) (waiting : List Waiting) → All (PacketFits wide high) waiting → packets_relieve waiting x y ≡ true → is_within wide high x y ≡ true
unfolding has
relieved_within wide high x y [] fit on = absurd (cc on)
relieved_within wide high x y (NewWindow w h ∷ waiting) fit on = relieved_within wide high x y waiting (All-tail (PacketFits wide high) (NewWindow w h) waiting fit) on
relieved_within wide high x y (WindowResized w h ∷ waiting) fit on = relieved_within wide high x y waiting (All-tail (PacketFits wide high) (WindowResized w h) waiting fit) on
relieved_within wide high x y (Draws d ∷ waiting) fit on = go (has d.relief x y) refl on (relieved_within wide high x y waiting (All-tail (PacketFits wide high) (Draws d) waiting fit))
  where
    go : (b : Bool) → has d.relief x y ≡ b → (b || packets_relieve waiting x y) ≡ true → (packets_relieve waiting x y ≡ true → is_within wide high x y ≡ true) → is_within wide high x y ≡ true
    go true here on rest =
        let fits = (All-head (PacketFits wide high) (Draws d) waiting fit).over in
        sym (ap (λ n. is_within n d.relief.high x y) fits.wide ∙ ap (λ n. is_within wide n x y) fits.high) ∙ both (is_within d.relief.wide d.relief.high x y) _ here
    go false here on rest = rest on

owed_delivered : (desk : List Window) (c : ClientSeen) (sent : List ℕ) (wid x y : ℕ) → IsDesktop desk → (told : IsTold desk c sent) → c.greeted ≡ true → client_owes wid x y c ≡ true → on_desk desk wid x y ≡ true
owed_delivered desk c sent wid x y is told greeted owed = go (find_window desk wid) (find_source c.sources wid) refl refl (source_where desk c.sources wid d.sourced)
  where
    d : IsDelivered desk c.sources c.packets told.windows told.messages
    d = told.delivered greeted

    any : Bool
    any = list_any (λ (t : Source). source_owes wid x y t) c.sources

    drawn : Bool
    drawn = list_any (λ (p : Packet). draw_relieves wid x y p.draw) c.packets

    either : (a b : Bool) → (a || b) ≡ true → (a ≡ true) ⊎ (b ≡ true)
    either true b on = inl refl
    either false b on = inr on

    go : (o : Option Window) (q : Option Source) → find_window desk wid ≡ o → find_source c.sources wid ≡ q → is_some (find_source c.sources wid) ≡ is_some (find_window desk wid) → on_desk desk wid x y ≡ true
    go None (Some s) here source stands = absurd (cc (sym (ap is_some source) ∙ stands ∙ ap is_some here))
    go (Some w) None here source stands = absurd (cc (sym (ap is_some source) ∙ stands ∙ ap is_some here))
    go None None here source stands =
        let none : any ≡ false = none_found c.sources wid x y source in
        let nothing : drawn ≡ false = relieves_as wid x y c.packets told.messages told.carried ∙ ap (λ ps. packets_relieve ps x y) (d.absent wid (ap is_some here)).1 in
        absurd (cc (sym (ap (λ b. b || drawn) none ∙ nothing) ∙ owed))
    go (Some w) (Some s) here source stands =
        let kept = d.kept wid w s here source in
        desk_found desk wid x y w is.distinct here ∙ elim (either any drawn owed) [
          | inl pending ↦
              let on : has_point s.pending x y ≡ true = sym (any_found c.sources wid x y s (sources_distinct desk c.sources d.sourced is.distinct) source) ∙ pending in
              sym (ap (λ n. is_within n s.pending.h x y) kept.pending.wide ∙ ap (λ n. is_within w.w n x y) kept.pending.high) ∙ both (is_within s.pending.w s.pending.h x y) _ on
          | inr relieved ↦ relieved_within w.w w.h x y (waiting_on wid c.packets told.messages) kept.packets (sym (relieves_as wid x y c.packets told.messages told.carried) ∙ relieved)
        ]

pub owed_told : (desk : List Window) (c : ClientSeen) (sent : List ℕ) (wid x y : ℕ) → IsDesktop desk → IsTold desk c sent → client_owes wid x y c ≡ true → (c.greeted ≡ true) × (on_desk desk wid x y ≡ true)
owed_told desk c sent wid x y is told owed = go c.greeted refl
  where
    any : List Source → Bool
    any sources = list_any (λ (t : Source). source_owes wid x y t) sources

    drawn : List Packet → Bool
    drawn packets = list_any (λ (p : Packet). draw_relieves wid x y p.draw) packets

    go : (b : Bool) → c.greeted ≡ b → (c.greeted ≡ true) × (on_desk desk wid x y ≡ true)
    go true greeted = (greeted, owed_delivered desk c sent wid x y is told greeted owed)
    go false off =
        let sources : any c.sources ≡ false = ap any (told.unattached off) in
        let packets : drawn c.packets ≡ false = ap drawn (told.unspoken off) in
        absurd (cc (sym (ap (λ b. b || drawn c.packets) sources ∙ packets) ∙ owed))
