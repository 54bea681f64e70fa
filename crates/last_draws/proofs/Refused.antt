-- What a capture, a result and giving jobs back do to the sources of a client, and that what is refused changes nothing.
use Rattle.std.proofs.Common.{◌≡◌, ℕ, Bool, true, false, Some, List, [], ◌∷◌, cond, eqb, refl, sym, ap, ◌∙◌}
use Rattle.std.specs.Prelude.{is_some}
use Rattle.std.proofs.lemmas.Bool.{eq-eqb, eqb-true, false_from_ne_true}
use Rattle.xp_base.specs.Points.{Rectangle}
use Rattle.xp_base.specs.Keyed.{HasDistinctKeys, keyed_change}
use Rattle.xp_base.specs.KeyedLaws.{KeyedFinds}
use Rattle.client_outbox.specs.Outgoing.{Outgoing}
use Rattle.window_source.specs.Source.{SourceSeen}
use Rattle.client_delivery.specs.Attached.{source_key, find_source}
use Rattle.attached_client.specs.Client.{ClientSeen}
use Rattle.attached_client.specs.Capturing.{with_source}

unchanged : (sources : List SourceSeen) (k : ℕ) → keyed_change source_key sources k (λ s. s) ≡ sources
unchanged [] k = refl
unchanged (s ∷ sources) k = ap (λ (l : List SourceSeen). cond (eqb (source_key s) k) s s ∷ l) (unchanged sources k) ∙ ap (λ (t : SourceSeen). t ∷ sources) (same (eqb (source_key s) k))
  where
    same : (b : Bool) → cond b s s ≡ s
    same true = refl
    same false = refl

module _ (finds : KeyedFinds SourceSeen) where
  -- a source that stands in its own place
  pub same_source : (c : ClientSeen) (k : ℕ) (s : SourceSeen) → HasDistinctKeys source_key c.seen.sources → find_source c.seen.sources k ≡ Some s → with_source k s c.seen.out c ≡ c
  same_source c k s distinct found =
      ap (λ (sources : List SourceSeen). record c { seen = record { sources = sources; out = c.seen.out } }) (finds.alike source_key c.seen.sources k s (λ t. s) (λ t. t) distinct found refl ∙ unchanged c.seen.sources k)

  -- of the window it stands for, and of no other
  pub with_found : (c : ClientSeen) (k : ℕ) (s s' : SourceSeen) (out : Outgoing (List Rectangle)) → find_source c.seen.sources k ≡ Some s → s'.wid ≡ s.wid → find_source (with_source k s' out c).seen.sources k ≡ Some s'
  with_found c k s s' out found wid = ap (λ (i : ℕ). find_source (keyed_change source_key c.seen.sources i (λ t. s')) k) (sym here)
      ∙ finds.replaced source_key c.seen.sources s' k (ap (λ (i : ℕ). is_some (find_source c.seen.sources i)) here ∙ ap is_some found)
      ∙ ap (λ (i : ℕ). cond (eqb k i) (Some s') (find_source c.seen.sources k)) here ∙ ap (λ (b : Bool). cond b (Some s') (find_source c.seen.sources k)) (eq-eqb k k refl)
    where
      here : s'.wid ≡ k
      here = wid ∙ finds.found source_key c.seen.sources k s found

  pub with_others : (c : ClientSeen) (k : ℕ) (s s' : SourceSeen) (out : Outgoing (List Rectangle)) → find_source c.seen.sources k ≡ Some s → s'.wid ≡ s.wid
      → (j : ℕ) → (j ≡ k → ⊥) → find_source (with_source k s' out c).seen.sources j ≡ find_source c.seen.sources j
  with_others c k s s' out found wid j other = ap (λ (i : ℕ). find_source (keyed_change source_key c.seen.sources i (λ t. s')) j) (sym here)
      ∙ finds.replaced source_key c.seen.sources s' j (ap (λ (i : ℕ). is_some (find_source c.seen.sources i)) here ∙ ap is_some found)
      ∙ ap (λ (i : ℕ). cond (eqb j i) (Some s') (find_source c.seen.sources j)) here ∙ ap (λ (b : Bool). cond b (Some s') (find_source c.seen.sources j)) (false_from_ne_true (eqb j k) (λ is. other (eqb-true j k is)))
    where
      here : s'.wid ≡ k
      here = wid ∙ finds.found source_key c.seen.sources k s found
