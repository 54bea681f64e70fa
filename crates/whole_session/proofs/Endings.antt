-- A session is settled, or given up: all its connections have ended.
use Rattle.std.proofs.Common.{◌≡◌, ℕ, zero, suc, ◌+◌, Bool, false, Some, List, [], ◌∷◌, ◌++◌, map, length, take, refl, sym, ap, ◌∙◌, subst, arith}
use Rattle.std.specs.Prelude.{slice_get}
use Rattle.link_bay.specs.Connections.{fresh_connection}
use Rattle.script_lines.specs.declared.paint.Paint.{Paint}
use Rattle.paint_script.specs.Validity.{has_opened}
use Rattle.connection_table.specs.Tables.{Slot, Open, Away, Ended, is_open, open_count, ends_of, AllEnded}
use Rattle.connection_ends.specs.Causes.{HasCause}
use Rattle.connection_ends.specs.declared.end.End.{End}
use Rattle.open_connection.specs.Connection.{ConnectionSeen}
use Rattle.session_steps.specs.Seen.{Known, Seen}
use Rattle.session_steps.specs.Slots.{Slots}
use Rattle.session_steps.specs.Settling.{Act, settling_from, SettlesBy, SettlingBegins, SettlingKeeps, AllEndRightly}
use Rattle.session_steps.specs.Steady.{Phase, IsSteady}
use Rattle.session_settling.specs.Through.{IsSettling, GoesThrough, IsAny}
use Rattle.session_settling.specs.Settled.{SettledSo, closed, ClosesAll}
use Rattle.session_settling.specs.declared.turns.How.{How}
use Rattle.whole_session.specs.Session.{IsSession}
use Rattle.whole_session.specs.Ending.{HasEnded, SettlesTo, EndRightly, AbandonsTo}

-- ---- slots that are closed

same_one : {A : Type 0} (a b : A) → Some a ≡ Some b → a ≡ b
same_one a b same = cc same

there : (slots : Slots) (k : ℕ) (s : Slot ConnectionSeen End) → slice_get slots k ≡ Some s → (n : ℕ) × (length slots ≡ k + suc n)
there [] k s is = absurd (cc is)
there (x ∷ slots) zero s is = (length slots, omega arith)
there (x ∷ slots) (suc k) s is = let later = there slots k s is in let long = later.1 in (later.0, omega (arith, long))

within : (slots : Slots) (k n : ℕ) → length slots ≡ k + suc n → (s : Slot ConnectionSeen End) × (slice_get slots k ≡ Some s)
within [] k n long = absurd (omega (arith, long))
within (x ∷ slots) zero n long = (x, refl)
within (x ∷ slots) (suc k) n long = within slots k n (omega (arith, long))

closed_not_open : (s : Slot ConnectionSeen End) → is_open (closed s) ≡ false
closed_not_open (Open t) = refl
closed_not_open Away = refl
closed_not_open (Ended e) = refl

none_open : (slots : Slots) → ((k : ℕ) (s : Slot ConnectionSeen End) → slice_get slots k ≡ Some s → is_open s ≡ false) → open_count slots ≡ 0
none_open [] none = refl
none_open (s ∷ slots) none = let here = none 0 s refl in let later = none_open slots (λ k t is. none (suc k) t is) in rw here (omega (arith, later))

abbrev all_are : List End → Slots
all_are es = map Ended es

module _ {B : Type 0} (known : Known B) where
  all_closed : (old new : Seen B) → ClosesAll known old new → open_count new.slots ≡ 0
  all_closed old new closes = none_open new.slots (λ k s is.
      let at = there new.slots k s is in
      let was = within old.slots k at.0 (sym closes.long ∙ at.1) in
      let same : s ≡ closed was.0 = same_one s (closed was.0) (sym is ∙ closes.each k was.0 was.1) in
      ap is_open same ∙ closed_not_open was.0)

  none_away : (phase : Phase) (were_opened : ℕ → Bool) (s : Seen B) → IsSteady known phase were_opened s → (k : ℕ) → slice_get s.slots k ≡ Some Away → ⊥
  none_away phase were_opened s steady k is = steady.slots k Away is

  -- ---- settling begins with the session

  pub begins_here : SettlingBegins B → (lines : List Paint) (place : ℕ) (s : Seen B) → IsSession known lines place s → IsSettling known s
  begins_here begins lines place s is = (s, has_opened (take place lines), begins known (has_opened (take place lines)) s is.steady)

  module _ (keeps : SettlingKeeps B) where
    steady_then : (phase : Phase) (were_opened : ℕ → Bool) (acts : List Act) (a b : Seen B) → SettlesBy known phase acts a b → IsSteady known phase were_opened a → IsSteady known phase were_opened b
    steady_then phase were_opened acts a b by steady = keeps known phase were_opened acts a b by steady

    pub settling_on : (a b : Seen B) → IsSettling known a → GoesThrough known IsAny a b → IsSettling known b
    settling_on a b settling through =
        let by = through settling.0 settling.1 settling.2 in
        (settling.0, settling.1, steady_then (settling_from known settling.0) settling.1 by.acts a b by.by settling.2)

    pub has_ended : AllEnded ConnectionSeen End → (old new : Seen B) (ends : List End) (bay : B) → IsSettling known old → GoesThrough known IsAny old new → ClosesAll known old new → ends ≡ ends_of new.slots → bay ≡ new.bay → HasEnded ends bay new
    has_ended ended old new ends bay settling through closes are same =
        let after = settling_on old new settling through in
        record {
          each = ended new.slots (all_closed old new closes) (none_away (settling_from known after.0) after.1 new after.2) ∙ ap (λ (es : List End). map Ended es) (sym are);
          provider = sym same;
        }

    by_both : (phase : Phase) (xs ys : List Act) (a b c : Seen B) → SettlesBy known phase xs a b → SettlesBy known phase ys b c → SettlesBy known phase (xs ++ ys) a c
    by_both phase [] ys a b c by by' = subst (λ (s : Seen B). SettlesBy known phase ys s c) by by'
    by_both phase (x ∷ xs) ys a b c by by' = (by.0, by.1, by_both phase xs ys by.0 b c by.2 by')

    module _ (begins : SettlingBegins B) (ended : AllEnded ConnectionSeen End) (lines : List Paint) (place : ℕ) (began mid last : Seen B) (is : IsSession known lines place began) (how : How) (ends : List End) (bay : B)
        (first : GoesThrough known IsAny began mid) (so : SettledSo known began how mid) (second : GoesThrough known IsAny mid last) (closes : ClosesAll known mid last) (are : ends ≡ ends_of last.slots) (same : bay ≡ last.bay) where
      abbrev were : ℕ → Bool
      were = has_opened (take place lines)

      steady : IsSteady known (settling_from known began) were began
      steady = begins known were began is.steady

      settling_mid : IsSettling known mid
      settling_mid = settling_on began mid (begins_here begins lines place began is) first

      mid_steady : IsSteady known (settling_from known began) were mid
      mid_steady = let by = first began were steady in steady_then (settling_from known began) were by.acts began mid by.by steady

      last_steady : IsSteady known (settling_from known began) were last
      last_steady = let by = second began were mid_steady in steady_then (settling_from known began) were by.acts mid last by.by mid_steady

      closed_last : HasEnded ends bay last
      closed_last = has_ended ended mid last ends bay settling_mid second closes are same

      pub settles_to : SettlesTo known began how ends bay
      settles_to =
          let by = first began were steady in
          let by' = second began were mid_steady in
          record {
            settled = mid;
            last = last;
            acts = by.acts ++ by'.acts;
            by = by_both (settling_from known began) by.acts by'.acts began mid last by.by by'.by;
            so = so;
            closes = closes;
            ended = closed_last;
          }

      pub desk_stays : last.desk ≡ began.desk
      desk_stays = (last_steady.since).0

      pub end_rightly : AllEndRightly B → EndRightly known began.desk ends bay
      end_rightly rightly k e found =
          subst (λ b. HasCause began.desk (λ j. fresh_connection known.tells) (known.connection b) k e) closed_last.provider
          (rightly known were began last k e is.steady last_steady (ap (λ (ss : Slots). slice_get ss k) closed_last.each ∙ mapped ends k found))
        where
          mapped : (es : List End) (j : ℕ) → slice_get es j ≡ Some e → slice_get (all_are es) j ≡ Some (Ended e)
          mapped [] j is = absurd (cc is)
          mapped (x ∷ es) zero is = ap (λ (y : End). let slot : Slot ConnectionSeen End = Ended y in Some slot) (same_one x e is)
          mapped (x ∷ es) (suc j) is = mapped es j is

    pub abandons_to : SettlingBegins B → AllEnded ConnectionSeen End → (lines : List Paint) (place : ℕ) (old last : Seen B) → IsSession known lines place old → (ends : List End) (bay : B) → GoesThrough known IsAny old last
        → ClosesAll known old last → ends ≡ ends_of last.slots → bay ≡ last.bay → AbandonsTo known old ends bay
    abandons_to begins ended lines place old last is ends bay through closes are same =
        record { last = last; closes = closes; ended = has_ended ended old last ends bay (begins_here begins lines place old is) through closes are same }
