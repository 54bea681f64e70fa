-- What a source's capture and filing are to its client's deliveries.
use Rattle.std.proofs.Common.{◌≡◌, ℕ, Bool, true, false, Some, None, List, [], ◌∷◌, ◌++◌, map, cond, eqb, ◌||◌, refl, sym, ap, ◌∙◌, subst, arith}
use Rattle.std.specs.Prelude.{Option, nat_eq}
use Rattle.std.specs.List.{AllByRecursion}
use Rattle.std.proofs.lemmas.Bool.Decides.{nat_tests}
use Rattle.xp_base.specs.Points.{Rectangle, is_within}
use Rattle.xp_base.specs.Keyed.{keyed_change}
use Rattle.xp_base.specs.KeyedLaws.{KeyedFinds}
use Rattle.rect_regions.specs.PointSets.{has}
use Rattle.delivery_model.specs.Grids.{Grid}
use Rattle.delivery_model.specs.Window.{Packet, Window as Delivery}
use Rattle.delivery_model.specs.Events.{Planned, captured, filed}
use Rattle.delivery_model.specs.Refusals.{is_busy as is_busy_in}
use Rattle.window_model.specs.Desktop.{Window, find_window}
use Rattle.packet_kinds.specs.declared.to_client.ToClient.{ToClient}
use Rattle.packet_kinds.specs.declared.to_client.ToClient.TheVariants as T
use Rattle.capture_jobs.specs.Jobs.{EncodingJob, FinishedJob}
use Rattle.client_outbox.specs.declared.draw.Draw.{Draw}
use Rattle.client_outbox.specs.Outgoing.{Outgoing}
use Rattle.client_outbox.specs.Reliefs.{is_named, is_busy}
use Rattle.window_source.specs.declared.capturing.Caught.TheVariants as C
use Rattle.window_source.specs.Source.{SourceSeen, window_of, source_of}
use Rattle.window_source.specs.Waiting.{Queued, Waiting, Carries, IsDraw, ReliefLies, draws_as, says_to, waits_on}
use Rattle.window_source.specs.Drawn.{Drawn, DrawsIn, Files as FilesOf, seen_as, all_seen}
use Rattle.client_delivery.specs.Attached.{source_key, find_source}
use Rattle.client_delivery.specs.Delivered.{IsTold, packets_of}
use Rattle.client_delivery.specs.Numbered.{numbered, numbered_on}
use Rattle.client_delivery.specs.Steps.{Captures, Files}
use Rattle.capture_jobs.specs.declared.answers.Filed.TheVariants as F
use Rattle.attached_client.specs.Client.{ClientSeen}
use Rattle.attached_client.specs.Drawing.{Capturing, Filing, ClientDraws}
use Rattle.attached_client.specs.Capturing.{CapturesBy, CapturesWhere, FilesBy, FilesWhere, with_source, CapturedIsDrawn, FiledIsDrawn}

-- ---- whether a draw waits

busy_with : (k : ℕ) (o : Option ℕ) (d : Option Draw) (pixels : List ℕ) (m : ToClient) → IsDraw o d pixels m → (rest : List Packet) (b : Bool) → is_busy_in rest ≡ b
    → is_busy_in (cond (is_named o k) (numbered d) [] ++ rest) ≡ (is_named o k || b)
busy_with k None d pixels m draw rest b same = same
busy_with k (Some j) None pixels m draw rest b same = absurd draw
busy_with k (Some j) (Some d) pixels m draw rest b same = go (nat_eq j k)
  where
    go : (t : Bool) → is_busy_in (cond t (numbered (Some d)) [] ++ rest) ≡ (t || b)
    go true = refl
    go false = same

busy_alike : (k : ℕ) (waiting : List Waiting) → AllByRecursion Carries waiting → is_busy_in (numbered_on k (packets_of waiting)) ≡ is_busy k (packets_of waiting)
busy_alike k [] all = refl
busy_alike k (w ∷ waiting) all =
    busy_with k w.packet.wid w.packet.draw w.pixels w.message all.0.draw (numbered_on k (packets_of waiting)) (is_busy k (packets_of waiting)) (busy_alike k waiting all.1)

-- ---- draws as packets that wait

abbrev waiting_of : Drawn (List Rectangle) → Waiting
waiting_of d = record { packet = d.packet; message = d.message; pixels = d.pixels }

same_packets : (drawn : List (Drawn (List Rectangle))) → packets_of (map waiting_of drawn) ≡ map (λ (d : Drawn (List Rectangle)). d.packet) drawn
same_packets [] = refl
same_packets (d ∷ drawn) = ap (λ (l : List Queued). d.packet ∷ l) (same_packets drawn)

is_some_draw : (o : Option ℕ) (d : Option Draw) (k : ℕ) (pixels : List ℕ) (m : ToClient) → o ≡ Some k → d ≡ None → IsDraw o d pixels m → ⊥
is_some_draw None d k pixels m named none draw = cc named
is_some_draw (Some j) None k pixels m named none draw = draw
is_some_draw (Some j) (Some d) k pixels m named none draw = cc none

module _ (wide high k : ℕ) where
  carries : (drawn : List (Drawn (List Rectangle))) → AllByRecursion (DrawsIn has wide high k) drawn → AllByRecursion Carries (map waiting_of drawn)
  carries [] all = tt
  carries (d ∷ drawn) all =
      (record { message = all.0.message; draw = all.0.draw; plain = λ none. absurd (is_some_draw d.packet.wid d.packet.draw k d.pixels d.message all.0.own none all.0.draw) }, carries drawn all.1)

  owns : (drawn : List (Drawn (List Rectangle))) → AllByRecursion (DrawsIn has wide high k) drawn → AllByRecursion (λ (w : Waiting). w.packet.wid ≡ Some k) (map waiting_of drawn)
  owns [] all = tt
  owns (d ∷ drawn) all = (all.0.own, owns drawn all.1)

  lies : (drawn : List (Drawn (List Rectangle))) → AllByRecursion (DrawsIn has wide high k) drawn → AllByRecursion (ReliefLies wide high k) (map waiting_of drawn)
  lies [] all = tt
  lies (d ∷ drawn) all = ((λ own x y there. all.0.within x y there), lies drawn all.1)

  -- what one is to the window
  says_same : (w : Waiting) (o : Option ℕ) (d : Option Draw) (m : ToClient) → o ≡ Some k → w.packet.draw ≡ d → IsDraw o d w.pixels m → says_to wide high k w m ≡ draws_as wide high d w
  says_same w None d m named is draw = absurd (cc named)
  says_same w (Some j) None m named is draw = absurd draw
  says_same w (Some j) (Some d) (T.Draw wid x y w' h' coding bytes sequence stride) named is draw =
      let own : j ≡ k = cc named in
      let here : eqb k wid ≡ true = subst (λ (i : ℕ). eqb k i ≡ true) (sym own ∙ draw.0) (grind (arith, nat_tests)) in
      rw here (ap (λ (o : Option Draw). draws_as wide high o w) is)
  says_same w (Some j) (Some d) (T.Hello caps) named is draw = absurd draw
  says_same w (Some j) (Some d) (T.NewWindow wid x y w' h') named is draw = absurd draw
  says_same w (Some j) (Some d) (T.LostWindow wid) named is draw = absurd draw
  says_same w (Some j) (Some d) (T.WindowResized wid w' h') named is draw = absurd draw
  says_same w (Some j) (Some d) (T.WindowMoveResize wid x y w' h') named is draw = absurd draw
  says_same w (Some j) (Some d) (T.RaiseWindow wid) named is draw = absurd draw
  says_same w (Some j) (Some d) (T.PingEcho t) named is draw = absurd draw
  says_same w (Some j) (Some d) (T.Disconnect reason) named is draw = absurd draw
  says_same w (Some j) (Some d) T.Other named is draw = absurd draw

  as_seen : (d : Drawn (List Rectangle)) (o : Option Draw) → draws_as wide high o (waiting_of d) ≡ seen_as has wide high d o
  as_seen d None = refl
  as_seen d (Some draw) = refl

  waits_same : (drawn : List (Drawn (List Rectangle))) → AllByRecursion (DrawsIn has wide high k) drawn → waits_on wide high k (map waiting_of drawn) ≡ all_seen has wide high drawn
  waits_same [] all = refl
  waits_same (d ∷ drawn) all =
      ap (λ (l : List Packet). l ++ waits_on wide high k (map waiting_of drawn)) (says_same (waiting_of d) d.packet.wid d.packet.draw d.message all.0.own refl all.0.draw ∙ as_seen d d.packet.draw)
      ∙ ap (λ (l : List Packet). seen_as has wide high d d.packet.draw ++ l) (waits_same drawn all.1)

-- ---- the steps

stays_so : (c c' : ClientSeen) (k : ℕ) (source : SourceSeen) (out : Outgoing (List Rectangle)) → c' ≡ with_source k source out c → c' ≡ record c { seen = c'.seen }
stays_so c c' k source out is = is ∙ sym (ap (λ (d : ClientSeen). record c { seen = d.seen }) is)

module _ (finds : KeyedFinds SourceSeen) where
  pub captured_drawn : CapturedIsDrawn
  captured_drawn desk were_opened mode now first window jobs c c' sent on told captures = go (find_source c.seen.sources window.wid) refl captures
    where
      go : (o : Option SourceSeen) → find_source c.seen.sources window.wid ≡ o → CapturesWhere o mode now first window c (Some (C.Jobs jobs)) c'
          → (plan : List Planned) × ClientDraws desk now (Capturing window plan first) c c'
      go None found captures = absurd captures
      go (Some s) found by = (
        by.gives.takes.plan,
        record {
          draws = (
            on,
            record {
              source = s;
              found = found;
              planned = by.gives.planned (numbered_on window.wid c.seen.out.packets) busy;
              sources = ap (λ (d : ClientSeen). d.seen.sources) by.client
                  ∙ finds.alike source_key c.seen.sources window.wid s (λ t. by.source) (λ t. source_of t.conn t.wid (captured by.gives.takes.plan first (window_of t window.pixels None []))) told.delivered.distinct found by.gives.takes.after;
              out = ap (λ (d : ClientSeen). d.seen.out) by.client;
            },
          );
          stays = stays_so c c' window.wid by.source c.seen.out by.client;
        },
      )
        where
          own : s.wid ≡ window.wid
          own = finds.found source_key c.seen.sources window.wid s found

          busy : is_busy_in (numbered_on window.wid c.seen.out.packets) ≡ is_busy s.wid c.seen.out.packets
          busy = subst (λ (packets : List Queued). is_busy_in (numbered_on window.wid packets) ≡ is_busy window.wid packets) told.bytes.packets (busy_alike window.wid told.waiting told.bytes.carried)
              ∙ ap (λ (j : ℕ). is_busy j c.seen.out.packets) (sym own)

  pub filed_drawn : FiledIsDrawn
  filed_drawn desk k now c c' done becomes = go (find_source c.seen.sources k) refl becomes
    where
      go : (o : Option SourceSeen) → find_source c.seen.sources k ≡ o → FilesWhere o k now c done F.Filed c' → ClientDraws desk now (Filing k done.job.number done.job.capture) c c'
      go None found late = absurd (cc late.0)
      go (Some s) found by = record {
        draws = record {
          source = s;
          found = found;
          source' = by.source;
          wid_stays = files.wid_stays;
          wide_stays = files.wide_stays;
          high_stays = files.high_stays;
          sources = ap (λ (d : ClientSeen). d.seen.sources) by.client;
          drawn = map waiting_of files.drawn;
          carried = carries s.wide s.high k files.drawn draws;
          own = owns s.wide s.high k files.drawn draws;
          lies = lies s.wide s.high k files.drawn draws;
          put = ap (λ (d : ClientSeen). d.seen.out) by.client ∙ files.put ∙ ap (λ (l : List Queued). record c.seen.out { packets = c.seen.out.packets ++ l }) (sym (same_packets files.drawn));
          event = λ numbers client packets. ap (λ (l : List Packet). window_of by.source numbers client (packets ++ l)) (waits_same s.wide s.high k files.drawn draws) ∙ files.event numbers client packets;
        };
        stays = stays_so c c' k by.source by.out by.client;
      }
        where
          files : FilesOf has done.job.number done.job.capture now s by.source c.seen.out by.out
          files = by.gives.1

          draws : AllByRecursion (DrawsIn has s.wide s.high k) files.drawn
          draws = subst (λ (j : ℕ). AllByRecursion (DrawsIn has s.wide s.high j) files.drawn) (finds.found source_key c.seen.sources k s found) files.draws
