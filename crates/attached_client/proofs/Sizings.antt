-- A window has another size.
use Rattle.std.proofs.Common.{◌≡◌, ℕ, Some, None, List, sym, ap, ◌∙◌, subst}
use Rattle.xp_base.specs.Keyed.{keyed_change}
use Rattle.xp_base.specs.Points.{Rectangle}
use Rattle.hello_caps.specs.declared.caps.Caps.{Caps}
use Rattle.rect_regions.specs.PointSets.{has}
use Rattle.delivery_model.specs.Events.{resized}
use Rattle.client_outbox.specs.Outgoing.{Outgoing}
use Rattle.window_source.specs.Source.{SourceSeen, after}
use Rattle.window_source.specs.Resized.{ResizingSeen, IsResizing, ResizesOutbox}
use Rattle.client_delivery.specs.Attached.{source_key, find_source}
use Rattle.attached_client.specs.Client.{ClientSeen}
use Rattle.attached_client.specs.Changes.{IsResizingIn, Sizes}

-- of the source that was found
pub of_source : (c : ClientSeen) (k : ℕ) (s : SourceSeen) (z : ResizingSeen (List Rectangle)) → find_source c.seen.sources k ≡ Some s → IsResizingIn k c z → IsResizing has s c.seen.out.packets z
of_source c k s z found is = subst (λ (t : SourceSeen). IsResizing has t c.seen.out.packets z) (let same : is.source ≡ s = cc (is.found, found) in same) is.made

pub not_missing : (c : ClientSeen) (k : ℕ) (z : ResizingSeen (List Rectangle)) → find_source c.seen.sources k ≡ None → IsResizingIn k c z → ⊥
not_missing c k z none is = let bad : None ≡ Some is.source = sym none ∙ is.found in cc bad

-- the source was changed, and the outbox
pub sizes_so : (k w h now conn : ℕ) (caps : Caps) (sources sources' : List SourceSeen) (out out' : Outgoing (List Rectangle)) {c : ClientSeen} → record { conn = conn; caps = caps; seen = record { sources = sources; out = out } } ≡ c
    → {c' : ClientSeen} → c' ≡ record { conn = conn; caps = caps; seen = record { sources = sources'; out = out' } } → sources' ≡ keyed_change source_key sources k (after (resized w h now))
    → ResizesOutbox has k w h out out' → Sizes k w h now c c'
sizes_so k w h now conn caps sources sources' out out' {c} same {c'} new changed outbox = subst (λ (d : ClientSeen). Sizes k w h now d c') same (record {
  out = out';
  outbox = outbox;
  client = new ∙ ap (λ (l : List SourceSeen). record { conn = conn; caps = caps; seen = record { sources = l; out = out' } }) changed;
})
