-- A session seen after a part of it changed.
use Rattle.std.proofs.Common.{◌≡◌, ◌≢◌, ℕ, ◌+◌, ◌^◌, ◌<◌, ◌≤◌, true, [], ◌∷◌, ◌++◌, refl, sym, ap, ◌∙◌, subst, arith}
use Rattle.xp_base.specs.declared.numbers.Conn.{Conn}
use Rattle.link_bay.specs.Connections.{ConnectionRecord, OthersStay}
use Rattle.link_bay.specs.Answers.{AcceptGives}
use Rattle.link_bay.specs.declared.bay.Accept.TheVariants as V
use Rattle.connection_table.specs.Tables.{Open, open_count}
use Rattle.client_outbox.specs.declared.out.Out.{Out}
use Rattle.client_outbox.specs.declared.out.Out.TheVariants as O
use Rattle.open_connection.specs.Connection.{ConnectionSeen, fresh}
use Rattle.open_connection.specs.declared.heard.Heard.{Heard}
use Rattle.open_connection.specs.declared.heard.Heard.TheVariants as H
use Rattle.session_steps.specs.declared.answers.Accepted.TheVariants as A
use Rattle.session_steps.specs.declared.answers.Received.TheVariants as R
use Rattle.session_steps.specs.Seen.{Known, Seen}
use Rattle.session_steps.specs.Slots.{Slots}
use Rattle.session_steps.specs.Accepting.{Accepts}
use Rattle.session_steps.specs.Reading.{puts, with_ignored, Finishes}
use Rattle.session_steps.specs.Sending.{slot_after}

-- what a connection is after a write
pub not_failed : (after : ConnectionSeen) (out : Out) → out ≢ O.Failed → slot_after after out ≡ Open after
not_failed after (O.Took n) other = refl
not_failed after O.Idle other = refl
not_failed after O.Again other = refl
not_failed after O.Failed other = absurd (other refl)
not_failed after O.NoMemory other = refl

module _ {B : Type 0} where
  -- with other slots and another provider
  pub moved_to : (seen old : Seen B) (slots slots' : Slots) (bay : B) → seen ≡ old → slots ≡ slots' → record seen { slots = slots; bay = bay } ≡ record old { slots = slots'; bay = bay }
  moved_to seen old slots slots' bay is same = ap (λ (s : Seen B). record s { slots = slots; bay = bay }) is ∙ ap (λ (ss : Slots). record old { slots = ss; bay = bay }) same

  -- an accept, by what the provider answered
  pub accept_full : (known : Known B) (seen old : Seen B) → seen ≡ old → 8 ≤ open_count seen.slots → Accepts known old A.Full old
  accept_full known seen old is full = subst (λ (s : Seen B). Accepts known s A.Full s) is (full, refl)

  pub accept_short : (known : Known B) (seen old : Seen B) (slots : Slots) → seen ≡ old → open_count seen.slots < 8 → slots ≡ seen.slots → Accepts known old A.NoMemory (record seen { slots = slots })
  accept_short known seen old slots is room same = subst (λ (s : Seen B). Accepts known s A.NoMemory (record seen { slots = slots })) is
      (room, (record { provider = refl; connections = λ j low. refl }), ap (λ (ss : Slots). record seen { slots = ss }) same)

  module _ (known : Known B) (seen old : Seen B) (slots : Slots) (bay : B) (is : seen ≡ old) (room : open_count seen.slots < 8)
      (others : OthersStay (known.connection seen.bay) (known.connection bay) (known.provider seen.bay).count) (numbered : (known.provider bay).count + (known.provider bay).room < 2 ^ 32) where
    pub accept_comes : (c : Conn) → AcceptGives known.tells (known.provider seen.bay) (known.provider bay) (known.connection bay) (V.Conn c) → slots ≡ seen.slots ++ Open fresh ∷ []
        → Accepts known old (A.Conn c) (record seen { slots = slots; bay = bay })
    accept_comes c gives same = subst (λ (s : Seen B). Accepts known s (A.Conn c) (record seen { slots = slots; bay = bay })) is
        ((record { room = room; gives = gives; others = others; numbered = omega (arith, numbered) }), ap (λ (ss : Slots). record seen { slots = ss; bay = bay }) same)

    pub accept_nobody : AcceptGives known.tells (known.provider seen.bay) (known.provider bay) (known.connection bay) V.Nobody → slots ≡ seen.slots → Accepts known old A.Nobody (record seen { slots = slots; bay = bay })
    accept_nobody gives same = subst (λ (s : Seen B). Accepts known s A.Nobody (record seen { slots = slots; bay = bay })) is
        ((record { room = room; gives = gives; others = others; numbered = omega (arith, numbered) }), ap (λ (ss : Slots). record seen { slots = ss; bay = bay }) same)

    pub accept_failed : AcceptGives known.tells (known.provider seen.bay) (known.provider bay) (known.connection bay) V.Failed → slots ≡ seen.slots
        → Accepts known old A.Failed (record seen { slots = slots; accept_failed = true; bay = bay })
    accept_failed gives same = subst (λ (s : Seen B). Accepts known s A.Failed (record seen { slots = slots; accept_failed = true; bay = bay })) is
        ((record { room = room; gives = gives; others = others; numbered = omega (arith, numbered) }), ap (λ (ss : Slots). record seen { slots = ss; accept_failed = true; bay = bay }) same)

    pub accept_without : AcceptGives known.tells (known.provider seen.bay) (known.provider bay) (known.connection bay) V.NoMemory → slots ≡ seen.slots → Accepts known old A.NoMemory (record seen { slots = slots; bay = bay })
    accept_without gives same = subst (λ (s : Seen B). Accepts known s A.NoMemory (record seen { slots = slots; bay = bay })) is
        (room, (record { provider = gives; connections = λ j low. others j (λ here. absurd (omega (arith, low, here))) }), ap (λ (ss : Slots). record seen { slots = ss; bay = bay }) same)

  -- a read that goes on
  pub goes_on : (c : Conn) (after : ConnectionSeen) (n : ℕ) (seen old : Seen B) (slots : Slots) (bay : B) (r r' : ConnectionRecord) (heard : Heard) (ignored : ℕ) → heard ≡ H.GoesOn ignored → r' ≡ r
      → record seen { slots = slots; bay = bay } ≡ puts c (Open after) (with_ignored ignored old) bay → Finishes c after n old r r' heard (R.Took n) (record seen { slots = slots; bay = bay })
  goes_on c after n seen old slots bay r r' heard ignored is same now = subst (λ (h : Heard). Finishes c after n old r r' h (R.Took n) (record seen { slots = slots; bay = bay })) (sym is) (refl, same, now)
