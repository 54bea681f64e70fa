-- What a client says.
use Rattle.std.proofs.Common.{◌≡◌, ℕ, ℤ, pos, negsuc, Bool, true, false, List, [], ◌∷◌, cond, eqb, refl, sym, ap, subst}
use Rattle.std.specs.Prelude.{nat_lt, ◌&&◌}
use Rattle.xp_base.specs.Keyed.{keyed_change}
use Rattle.bencode_values.specs.Grammar.{is_in_range}
use Rattle.packet_kinds.specs.declared.from_client.FromClient.{FromClient}
use Rattle.packet_kinds.specs.declared.from_client.FromClient.TheVariants as C
use Rattle.packet_kinds.specs.declared.to_client.ToClient.TheVariants as T
use Rattle.window_source.specs.Source.{SourceSeen}
use Rattle.window_source.specs.Calls.{acknowledged_at, is_negative}
use Rattle.client_delivery.specs.Attached.{AttachedSeen, source_key}
use Rattle.client_delivery.specs.Delivered.{IsTold}
use Rattle.client_delivery.specs.Keeping.{QuietKeeps, AnswerKeeps}
use Rattle.client_delivery.specs.Steps.{Mapping, Unmapping, Acknowledging, Refreshing, changes_source}
use Rattle.attached_client.specs.Client.{plain_packet, puts_message, weight}
use Rattle.attached_client.specs.Acting.{acted}
use Rattle.attached_client.specs.Laws.{ActingKeeps}
use Rattle.attached_client.proofs.Messages.{Writes, echo_carries}

-- a change that changes nothing
pub unchanged : (k : ℕ) (sources : List SourceSeen) → keyed_change source_key sources k (λ s. s) ≡ sources
unchanged k [] = refl
unchanged k (s ∷ sources) = go (eqb s.wid k) (unchanged k sources)
  where
    go : (b : Bool) → keyed_change source_key sources k (λ s. s) ≡ sources → cond b s s ∷ keyed_change source_key sources k (λ s. s) ≡ s ∷ sources
    go true later = ap (λ (l : List SourceSeen). s ∷ l) later
    go false later = ap (λ (l : List SourceSeen). s ∷ l) later

module _ (writes : Writes) (quiets : QuietKeeps) (answers : AnswerKeeps) where
  pub acting_keeps : ActingKeeps
  acting_keeps desk were_opened now m a sent told = go m
    where
      kept : AttachedSeen → Type 0
      kept a' = IsTold desk were_opened a' sent

      acknowledges : (k : ℕ) (sequence time : ℤ) → kept (changes_source k (acknowledged_at sequence time now) a)
      acknowledges k (pos s) time = quiets desk were_opened k (Acknowledging s (is_negative time) now) a sent told
      acknowledges k (negsuc s) time = subst (λ (sources : List SourceSeen). kept (record a { sources = sources })) (sym (unchanged k a.sources)) told

      echoes : (t : ℤ) (fits : Bool) → is_in_range t ≡ fits → (light : Bool) → kept (cond (fits && light) (puts_message (T.PingEcho t) a) a)
      echoes t true fits true = answers desk were_opened t a (puts_message (T.PingEcho t) a) sent (record { sources = refl; put = record { packet = plain_packet (T.PingEcho t); carries = echo_carries writes t fits; put = refl } }) told
      echoes t true fits false = told
      echoes t false none light = told

      go : (m : FromClient) → kept (acted now m a)
      go (C.Hello caps) = told
      go (C.MapWindow (pos k) further) = quiets desk were_opened k Mapping a sent told
      go (C.MapWindow (negsuc k) further) = told
      go (C.UnmapWindow (pos k) further) = quiets desk were_opened k (Unmapping now) a sent told
      go (C.UnmapWindow (negsuc k) further) = told
      go (C.DamageSequence sequence (pos k) w h time message) = acknowledges k sequence time
      go (C.DamageSequence sequence (negsuc k) w h time message) = told
      go (C.BufferRefresh (pos k) further) = quiets desk were_opened k (Refreshing now) a sent told
      go (C.BufferRefresh (negsuc k) further) = told
      go (C.Ping t further) = echoes t (is_in_range t) refl (nat_lt (weight a) 33554432)
      go (C.Disconnect further) = told
      go C.Other = told
