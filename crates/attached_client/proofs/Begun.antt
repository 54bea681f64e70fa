-- A client that begins: the windows announced so far.
use Rattle.std.proofs.Common.{◌≡◌, ℕ, ◌<◌, ◌+◌, suc, List, [], ◌∷◌, ◌++◌, map, take, length, get_or, sym, ap, ◌∙◌, arith}
use Rattle.std.proofs.Math.Seq.{take-suc}
use Rattle.std.proofs.lemmas.List.{map-append, length-map, get_or-map}
use Rattle.xp_base.specs.Keyed.{HasDistinctKeys}
use Rattle.hello_caps.specs.declared.caps.Caps.{Caps}
use Rattle.window_model.specs.Desktop.{Window}
use Rattle.client_outbox.specs.Outgoing.{Outgoing, with_packet}
use Rattle.xp_base.specs.Points.{Rectangle}
use Rattle.window_source.specs.Source.{SourceSeen}
use Rattle.window_source.specs.Waiting.{Queued}
use Rattle.client_delivery.specs.Attached.{source_key, started_source}
use Rattle.client_delivery.specs.Steps.{announces}
use Rattle.attached_client.specs.Client.{plain_packet, hello_packet}

-- the first so many windows have their sources and their announcements
pub record IsBegun (desk : List Window) (conn now : ℕ) (caps : Caps) (count : ℕ) (sources : List SourceSeen) (out : Outgoing (List Rectangle)) : Type 0 where
  pub sources_are : sources ≡ map (started_source conn now) (take count desk)
  pub packets_are : out.packets ≡ hello_packet caps ∷ map (λ (w : Window). plain_packet (announces w)) (take count desk)
  pub taken_is : out.taken ≡ 0

-- one window more
pub one_more : (desk : List Window) (conn now : ℕ) (caps : Caps) (count : ℕ) (sources : List SourceSeen) (out : Outgoing (List Rectangle)) (w : Window) → IsBegun desk conn now caps count sources out
    → count < length desk → w ≡ get_or desk count w → IsBegun desk conn now caps (count + 1) (sources ++ started_source conn now w ∷ []) (with_packet out (plain_packet (announces w)))
one_more desk conn now caps count sources out w begun within is = record {
  sources_are = ap (λ (l : List SourceSeen). l ++ started_source conn now w ∷ []) begun.sources_are ∙ sym (ap (map (started_source conn now)) step ∙ map-append (started_source conn now) (take count desk) (w ∷ []));
  packets_are = ap (λ (l : List Queued). l ++ plain_packet (announces w) ∷ []) begun.packets_are
      ∙ ap (λ (l : List Queued). hello_packet caps ∷ l) (sym (ap (map (λ (v : Window). plain_packet (announces v))) step ∙ map-append (λ (v : Window). plain_packet (announces v)) (take count desk) (w ∷ [])));
  taken_is = begun.taken_is;
}
  where
    step : take (count + 1) desk ≡ take count desk ++ w ∷ []
    step = ap (λ n. take n desk) (let same : count + 1 ≡ suc count = omega arith in same) ∙ take-suc desk count w within ∙ ap (λ (v : Window). take count desk ++ v ∷ []) (sym is)

-- the sources of windows of distinct numbers are of distinct numbers
pub distinct_begun : (conn now : ℕ) (desk : List Window) → HasDistinctKeys (λ (w : Window). w.wid) desk → HasDistinctKeys source_key (map (started_source conn now) desk)
distinct_begun conn now [] distinct = λ i j d before within same. absurd (omega (arith, within))
distinct_begun conn now (w ∷ desk) distinct = λ i j d before within same.
    let size = length-map (w ∷ desk) (started_source conn now) in
    distinct i j w before (omega (arith, within, size)) (sym (at i d (omega (arith, before, within, size))) ∙ same ∙ at j d (omega (arith, within, size)))
  where
    at : (k : ℕ) (d : SourceSeen) → k < length (w ∷ desk) → source_key (get_or (map (started_source conn now) (w ∷ desk)) k d) ≡ (get_or (w ∷ desk) k w).wid
    at k d within = ap source_key (get_or-map (started_source conn now) (w ∷ desk) k w d within)
