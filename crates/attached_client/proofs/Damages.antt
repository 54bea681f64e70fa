-- What is pending of a window, put in.
use Rattle.std.proofs.Common.{◌≡◌, ℕ, Some, None, List, sym, ◌∙◌, subst}
use Rattle.xp_base.specs.Points.{Rectangle}
use Rattle.rect_regions.specs.PointSets.{has}
use Rattle.window_source.specs.Source.{SourceSeen}
use Rattle.window_source.specs.Calls.{IsDamaged}
use Rattle.client_delivery.specs.Attached.{find_source}
use Rattle.attached_client.specs.Client.{ClientSeen}
use Rattle.attached_client.specs.Changes.{IsPendingIn}

-- of the source that was found
pub of_source : (c : ClientSeen) (k : ℕ) (r : Rectangle) (s : SourceSeen) (pending : List Rectangle) → find_source c.seen.sources k ≡ Some s → IsPendingIn k r c pending → IsDamaged has s r pending
of_source c k r s pending found is = subst (λ (t : SourceSeen). IsDamaged has t r pending) (let same : is.source ≡ s = cc (is.found, found) in same) is.damage

pub not_missing : (c : ClientSeen) (k : ℕ) (r : Rectangle) (pending : List Rectangle) → find_source c.seen.sources k ≡ None → IsPendingIn k r c pending → ⊥
not_missing c k r pending none is = let bad : None ≡ Some is.source = sym none ∙ is.found in cc bad
