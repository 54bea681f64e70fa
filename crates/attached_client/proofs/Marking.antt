-- What a message does to the windows' marks, and to what is owed.
use Rattle.std.proofs.Common.{◌≡◌, ℕ, ℤ, pos, negsuc, Bool, true, false, Some, None, List, cond, eqb, refl, sym, ap, ◌∙◌, arith}
use Rattle.std.specs.Prelude.{Option, nat_lt, ◌&&◌, ◌||◌, option_map}
use Rattle.std.proofs.lemmas.Bool.Decides.{nat_tests}
use Rattle.xp_base.specs.KeyedLaws.{KeyedFinds}
use Rattle.bencode_values.specs.Grammar.{is_in_range}
use Rattle.packet_kinds.specs.declared.from_client.FromClient.{FromClient}
use Rattle.packet_kinds.specs.declared.from_client.FromClient.TheVariants as C
use Rattle.packet_kinds.specs.declared.to_client.ToClient.TheVariants as T
use Rattle.xp_base.specs.Points.{Rectangle}
use Rattle.delivery_model.specs.Window.{Window}
use Rattle.delivery_model.specs.Events.{unmapped, acknowledged, acknowledged_as, rect_sent}
use Rattle.window_source.specs.Source.{SourceSeen, alone, after}
use Rattle.window_source.specs.Calls.{acknowledged_at, is_negative}
use Rattle.client_talk.specs.Marks.{mark_after}
use Rattle.client_delivery.specs.Attached.{AttachedSeen, source_key, find_source}
use Rattle.client_delivery.specs.Owed.{owes}
use Rattle.client_delivery.specs.Owing.{QuietOwes, PutOwes}
use Rattle.client_delivery.specs.Steps.{quiet, Mapping, Unmapping, Acknowledging, Refreshing, changes_source}
use Rattle.attached_client.specs.Client.{plain_packet, puts_message, weight}
use Rattle.attached_client.specs.Acting.{acted}
use Rattle.attached_client.specs.Laws.{mark_in, ActingMarks, ActingOwes, said_owes}
use Rattle.attached_client.proofs.Actings.{unchanged}
use Rattle.attached_client.proofs.Messages.{Writes, echo_carries}

pub same_test : (a b : ℕ) → eqb a b ≡ eqb b a
same_test a b = grind (arith, nat_tests)

-- what an event does to a mark
unmapped_mark : (now : ℕ) (w : Window) → (unmapped now w).mapped ≡ false
unmapped_mark now w = go w.mapped refl
  where
    go : (b : Bool) → w.mapped ≡ b → (unmapped now w).mapped ≡ false
    go true is = rw is refl
    go false is = rw is refl

acknowledged_mark : (k : ℕ) (negative : Bool) (now : ℕ) (w : Window) → (acknowledged k negative now w).mapped ≡ w.mapped
acknowledged_mark k negative now w = go (rect_sent w.unacknowledged k) negative
  where
    go : (o : Option Rectangle) (negative : Bool) → (acknowledged_as o k negative now w).mapped ≡ w.mapped
    go None negative = refl
    go (Some r) true = refl
    go (Some r) false = refl

acknowledges_mark : (sequence time : ℤ) (now : ℕ) (w : Window) → (acknowledged_at sequence time now w).mapped ≡ w.mapped
acknowledges_mark (pos s) time now w = acknowledged_mark s (is_negative time) now w
acknowledges_mark (negsuc s) time now w = refl

module _ (finds : KeyedFinds SourceSeen) where
  -- an event of one window marks it so, and leaves the marks of all others
  changes_mark : (k wid : ℕ) (event : Window → Window) (mark : Bool → Bool) (a : AttachedSeen) → ((s : SourceSeen) → (event (alone s)).mapped ≡ mark s.mapped) → (was : Bool) → mark_in (find_source a.sources wid) ≡ Some was
      → mark_in (find_source (changes_source k event a).sources wid) ≡ Some (cond (eqb k wid) (mark was) was)
  changes_mark k wid event mark a does was is = ap mark_in (finds.changed source_key a.sources k (after event) wid (λ s. refl)) ∙ go (eqb wid k) (eqb k wid) (same_test wid k) (find_source a.sources wid) is
    where
      go : (b c : Bool) → b ≡ c → (o : Option SourceSeen) → mark_in o ≡ Some was → mark_in (cond b (option_map (after event) o) o) ≡ Some (cond c (mark was) was)
      go b c same None is = absurd (cc is)
      go true c same (Some s) is = rw (← same) (ap Some (does s) ∙ ap (λ (m : Bool). Some (mark m)) (let was_so : s.mapped ≡ was = cc is in was_so))
      go false c same (Some s) is = rw (← same) is

  pub acting_marks : ActingMarks
  acting_marks desk conn now wid m c was is = go m
    where
      a : AttachedSeen
      a = c.seen

      same : (b : Bool) → cond b was was ≡ was
      same true = refl
      same false = refl

      echoes : (b : Bool) (t : ℤ) → mark_in (find_source (cond b (puts_message (T.PingEcho t) c.seen) c.seen).sources wid) ≡ Some was
      echoes true t = is
      echoes false t = is

      go : (m : FromClient) → mark_in (find_source (acted now m c.seen).sources wid) ≡ Some (mark_after wid was m)
      go (C.Hello caps) = is
      go (C.MapWindow (pos k) further) = changes_mark k wid (quiet Mapping) (λ b. true) c.seen (λ s. refl) was is
      go (C.MapWindow (negsuc k) further) = is
      go (C.UnmapWindow (pos k) further) = changes_mark k wid (quiet (Unmapping now)) (λ b. false) c.seen (λ s. unmapped_mark now (alone s)) was is
      go (C.UnmapWindow (negsuc k) further) = is
      go (C.DamageSequence sequence (pos k) w h time message) =
          changes_mark k wid (acknowledged_at sequence time now) (λ b. b) c.seen (λ s. acknowledges_mark sequence time now (alone s)) was is ∙ ap Some (same (eqb k wid))
      go (C.DamageSequence sequence (negsuc k) w h time message) = is
      go (C.BufferRefresh (pos k) further) = changes_mark k wid (quiet (Refreshing now)) (λ b. b) c.seen (λ s. refl) was is ∙ ap Some (same (eqb k wid))
      go (C.BufferRefresh (negsuc k) further) = is
      go (C.Ping t further) = echoes (is_in_range t && nat_lt (weight c.seen) 33554432) t
      go (C.Disconnect further) = is
      go C.Other = is

or_false : (b : Bool) → b ≡ (b || false)
or_false true = refl
or_false false = refl

and_false : (b : Bool) → (b && false) ≡ false
and_false true = refl
and_false false = refl

module _ (writes : Writes) (quiets : QuietOwes) (puts : PutOwes) where
  pub acting_owes : ActingOwes
  acting_owes now m a k x y = go m
    where
      as_before : owes a k x y ≡ (owes a k x y || false)
      as_before = or_false (owes a k x y)

      says_nothing : (j : ℕ) → owes (changes_source j (quiet Mapping) a) k x y ≡ (owes a k x y || false)
      says_nothing j = quiets j Mapping a k x y ∙ ap (λ b. owes a k x y || b) (and_false (eqb k j))

      unmaps : (j : ℕ) → owes (changes_source j (quiet (Unmapping now)) a) k x y ≡ (owes a k x y || false)
      unmaps j = quiets j (Unmapping now) a k x y ∙ ap (λ b. owes a k x y || b) (and_false (eqb k j))

      acknowledges : (j : ℕ) (sequence time : ℤ) → owes (changes_source j (acknowledged_at sequence time now) a) k x y ≡ (owes a k x y || said_owes now (C.DamageSequence sequence (pos j) (pos 0) (pos 0) time None) a k x y)
      acknowledges j (pos s) time = quiets j (Acknowledging s (is_negative time) now) a k x y
      acknowledges j (negsuc s) time = ap (λ (sources : List SourceSeen). owes (record a { sources = sources }) k x y) (unchanged j a.sources) ∙ as_before ∙ ap (λ b. owes a k x y || b) (sym (and_false (eqb k j)))

      echoes : (fits light : Bool) (t : ℤ) → is_in_range t ≡ fits → owes (cond (fits && light) (puts_message (T.PingEcho t) a) a) k x y ≡ (owes a k x y || false)
      echoes true true t fits = puts (T.PingEcho t) a (puts_message (T.PingEcho t) a) k x y refl (record { sources = refl; put = record { packet = plain_packet (T.PingEcho t); carries = echo_carries writes t fits; put = refl } }) ∙ as_before
      echoes true false t fits = as_before
      echoes false light t fits = as_before

      go : (m : FromClient) → owes (acted now m a) k x y ≡ (owes a k x y || said_owes now m a k x y)
      go (C.Hello caps) = as_before
      go (C.MapWindow (pos j) further) = says_nothing j
      go (C.MapWindow (negsuc j) further) = as_before
      go (C.UnmapWindow (pos j) further) = unmaps j
      go (C.UnmapWindow (negsuc j) further) = as_before
      go (C.DamageSequence sequence (pos j) w h time message) = acknowledges j sequence time
      go (C.DamageSequence sequence (negsuc j) w h time message) = as_before
      go (C.BufferRefresh (pos j) further) = quiets j (Refreshing now) a k x y
      go (C.BufferRefresh (negsuc j) further) = as_before
      go (C.Ping t further) = echoes (is_in_range t) (nat_lt (weight a) 33554432) t refl
      go (C.Disconnect further) = as_before
      go C.Other = as_before
