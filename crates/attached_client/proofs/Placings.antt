-- A source in the place of another, by a capture or a result.
use Rattle.std.proofs.Common.{◌≡◌, ℕ, ◌<◌, Bool, true, false, Some, None, List, [], ◌∷◌, cond, eqb, slice_index_or, slice_set, refl, sym, ap, ◌∙◌, subst}
use Rattle.std.specs.Prelude.{Option, length}
use Rattle.xp_base.specs.Keyed.{HasDistinctKeys, keyed_change}
use Rattle.xp_base.specs.KeyedLaws.{KeyedPlaces, KeyedKeeps}
use Rattle.xp_base.specs.Points.{Rectangle}
use Rattle.hello_caps.specs.declared.caps.Caps.{Caps}
use Rattle.rect_regions.specs.PointSets.{has}
use Rattle.window_model.specs.Desktop.{Window}
use Rattle.capture_jobs.specs.Jobs.{FinishedJob}
use Rattle.capture_jobs.specs.declared.answers.Filed.{Filed}
use Rattle.capture_jobs.specs.declared.answers.Filed.TheVariants as F
use Rattle.client_outbox.specs.Outgoing.{Outgoing}
use Rattle.client_outbox.specs.Reliefs.{is_busy}
use Rattle.window_source.specs.declared.capturing.Mode.{Mode}
use Rattle.window_source.specs.declared.capturing.Caught.{Caught}
use Rattle.window_source.specs.Source.{SourceSeen}
use Rattle.window_source.specs.Capturing.{AnswersAs, CaptureGives}
use Rattle.window_source.specs.Drawn.{FileGives}
use Rattle.client_delivery.specs.Attached.{source_key, find_source}
use Rattle.attached_client.specs.Client.{ClientSeen, weight}
use Rattle.attached_client.specs.Capturing.{CapturesWhere, ClientCaptures, FilesWhere, ClientFiles}
use Rattle.attached_client.proofs.Places.{IsAt, found_at}

abbrev pub client_of : ℕ → Caps → List SourceSeen → Outgoing (List Rectangle) → ClientSeen
client_of conn caps sources out = record { conn = conn; caps = caps; seen = record { sources = sources; out = out } }

module _ (places : KeyedPlaces SourceSeen) (keeps : KeyedKeeps SourceSeen) (conn : ℕ) (caps : Caps) (sources : List SourceSeen) (out : Outgoing (List Rectangle)) (k i : ℕ) (old : SourceSeen)
    (distinct : HasDistinctKeys source_key sources) (at : IsAt sources k i) (within : i < length sources) (is : old ≡ slice_index_or sources i old) where
  found : find_source sources k ≡ Some old
  found = found_at places keeps sources k i old at within is

  put : (new : SourceSeen) → slice_set sources i new ≡ keyed_change source_key sources k (λ s. new)
  put new = places.changed source_key sources k i (λ s. new) old distinct at

  pub captures_so : (mode : Mode) (now first n : ℕ) (window : Window) (new : SourceSeen) (caught : Caught) {c : ClientSeen} → client_of conn caps sources out ≡ c → k ≡ window.wid → n ≡ weight c.seen
      → AnswersAs mode now n first (is_busy old.wid out.packets) old caught → CaptureGives caps.lossy first (is_busy old.wid out.packets) window.pixels old caught new
      → ClientCaptures mode now first window c (Some caught) (client_of conn caps (slice_set sources i new) out)
  captures_so mode now first n window new caught {c} same named weighs answer gives =
      subst (λ (d : ClientSeen). n ≡ weight d.seen → ClientCaptures mode now first window d (Some caught) (client_of conn caps (slice_set sources i new) out)) same begun weighs
    where
      begun : n ≡ (let d = client_of conn caps sources out in weight d.seen) → ClientCaptures mode now first window (client_of conn caps sources out) (Some caught) (client_of conn caps (slice_set sources i new) out)
      begun weighs = subst (λ (o : Option SourceSeen). CapturesWhere o mode now first window (client_of conn caps sources out) (Some caught) (client_of conn caps (slice_set sources i new) out))
          (sym (ap (λ (j : ℕ). find_source sources j) (sym named) ∙ found)) (record {
            source = new;
            answer = subst (λ (m : ℕ). AnswersAs mode now m first (is_busy old.wid out.packets) old caught) weighs answer;
            gives = gives;
            client = ap (λ (l : List SourceSeen). client_of conn caps l out) (put new ∙ ap (λ (j : ℕ). keyed_change source_key sources j (λ s. new)) named);
          })

  pub files_so : (now : ℕ) (new : SourceSeen) (out' : Outgoing (List Rectangle)) (done : FinishedJob) (answer : Filed) {c : ClientSeen} → client_of conn caps sources out ≡ c
      → FileGives has done now old new out out' answer → ClientFiles k now c done answer (client_of conn caps (slice_set sources i new) out')
  files_so now new out' done answer {c} same gives =
      subst (λ (d : ClientSeen). ClientFiles k now d done answer (client_of conn caps (slice_set sources i new) out')) same
      (subst (λ (o : Option SourceSeen). FilesWhere o k now (client_of conn caps sources out) done answer (client_of conn caps (slice_set sources i new) out')) (sym found) (record {
        source = new;
        out = out';
        gives = gives;
        client = ap (λ (l : List SourceSeen). client_of conn caps l out') (put new);
      }))

-- a client that has not the window
pub captures_none : (mode : Mode) (now first : ℕ) (window : Window) (c : ClientSeen) → find_source c.seen.sources window.wid ≡ None → ClientCaptures mode now first window c None c
captures_none mode now first window c none = subst (λ (o : Option SourceSeen). CapturesWhere o mode now first window c None c) (sym none) refl

pub files_none : (k now : ℕ) (c : ClientSeen) (done : FinishedJob) → find_source c.seen.sources k ≡ None → ClientFiles k now c done F.Late c
files_none k now c done none = subst (λ (o : Option SourceSeen). FilesWhere o k now c done F.Late c) (sym none) (refl, refl)

-- where no source is of the window nothing changes
pub unchanged : (sources : List SourceSeen) (k : ℕ) (change : SourceSeen → SourceSeen) → find_source sources k ≡ None → keyed_change source_key sources k change ≡ sources
unchanged [] k change none = refl
unchanged (s ∷ sources) k change none = go (eqb s.wid k) none (unchanged sources k change)
  where
    go : (b : Bool) → cond b (Some s) (find_source sources k) ≡ None → (find_source sources k ≡ None → keyed_change source_key sources k change ≡ sources)
        → cond b (change s) s ∷ keyed_change source_key sources k change ≡ s ∷ sources
    go true none later = absurd (cc none)
    go false none later = ap (λ (l : List SourceSeen). s ∷ l) (later none)
