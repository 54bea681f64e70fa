-- Writes one after another.
use Rattle.std.proofs.Common.{◌≡◌, ℕ, ◌+◌, ◌≤◌, ◌<◌, Bool, true, false, None, Some, Option, List, refl, sym, ap, ◌∙◌, subst, arith}
use Rattle.xp_base.specs.Counts.{RoseBy}
use Rattle.xp_base.specs.Points.{Rectangle}
use Rattle.xp_base.specs.declared.numbers.Conn.{Conn}
use Rattle.link_bay.specs.Connections.{ConnectionRecord}
use Rattle.client_outbox.specs.Laws.{TakenFromFront}
use Rattle.connection_table.specs.Tables.{open_at}
use Rattle.connection_ends.specs.declared.end.End.{End}
use Rattle.connection_ends.specs.declared.end.End.TheVariants as E
use Rattle.session_steps.specs.declared.answers.Sent.{Sent}
use Rattle.session_steps.specs.declared.answers.Sent.TheVariants as S
use Rattle.session_steps.specs.Seen.{Known, Seen}
use Rattle.session_steps.specs.Sending.{Sends}
use Rattle.session_steps.specs.Settling.{Writing, EndsWhere, EndsOpen, SettlingKeeps, CauseCame}
use Rattle.session_settling.specs.Through.{IsSettling, GoesThrough, IsOn}
use Rattle.session_settling.specs.Reading.{StaysOpen}
use Rattle.session_settling.specs.Writing.{client_at, NothingWaits, SourcesStay, IsWritten}
use Rattle.session_settling.proofs.Acts.{one_act, both, settling_then, closing}
use Rattle.session_settling.proofs.Places.{ended_there}
use Rattle.session_settling.proofs.Written.{sources_same, sources_both, took, again, idle, short}

-- what was written so far: so many writes in a row took nothing, and whether anything waited
pub record HasWritten {B : Type 0} (known : Known B) (k dry : ℕ) (waited : Bool) (old now : Seen B) : Type 0 where
  pub low : dry < 1000
  pub thirst : RoseBy dry (known.connection old.bay k).dry (known.connection now.bay k).dry
  pub drought : dry ≤ (known.connection now.bay k).drought
  pub sources : SourcesStay (client_at k old) (client_at k now)
  pub given : (known.connection now.bay k).given ≡ (known.connection old.bay k).given
  pub quiet : waited ≡ false → now ≡ old
  pub some : waited ≡ true → NothingWaits (client_at k old) → ⊥
  pub opened : waited ≡ true → StaysOpen k old

-- a connection that ended is open no more
pub ended_none : {B : Type 0} (known : Known B) (c : Conn) (e : End) (old new : Seen B) → EndsOpen known c e old new → open_at new.slots c.0 ≡ None
ended_none known c e old new ends = go (open_at old.slots c.0) refl ends
  where
    go : (o : Option _) → open_at old.slots c.0 ≡ o → EndsWhere known o c e old new → open_at new.slots c.0 ≡ None
    go None was same = ap (λ (s : Seen _). open_at s.slots c.0) same ∙ was
    go (Some q) was ends = ap (λ (s : Seen _). open_at s.slots c.0) ends.changed ∙ ended_there old.slots c.0 e

pub nothing_written : {B : Type 0} (known : Known B) (k : ℕ) (s : Seen B) → HasWritten known k 0 false s s
nothing_written known k s = record {
  low = omega arith;
  thirst = record { later = omega arith; risen = omega arith };
  drought = omega arith;
  sources = sources_same (client_at k s) (client_at k s) refl;
  given = refl;
  quiet = λ is. refl;
  some = λ is. absurd (cc is);
  opened = λ is. absurd (cc is);
}

module _ {B : Type 0} (known : Known B) (keeps : SettlingKeeps B) (front : TakenFromFront (List Rectangle)) (c : Conn) (max : ℕ) (offers : 1 ≤ max) (old now new : Seen B)
    (settling : IsSettling known old) (through : GoesThrough known (IsOn c.0) old now) where
  settling_now : IsSettling known now
  settling_now = settling_then known keeps (IsOn c.0) old now settling through

  pub writes_on : (answer : Sent) → Sends known c max now answer new → GoesThrough known (IsOn c.0) old new
  writes_on answer sends = both known keeps (IsOn c.0) old now new through (one_act known (IsOn c.0) (Writing c max answer) now new refl (λ phase. (offers, sends)))

  module _ (dry : ℕ) (waited : Bool) (so_far : HasWritten known c.0 dry waited old now) where
    -- what was open then, when something waits now
    was_open : StaysOpen c.0 now → StaysOpen c.0 old
    was_open opened = go waited refl
      where
        go : (b : Bool) → waited ≡ b → StaysOpen c.0 old
        go true is = so_far.opened is
        go false is = subst (StaysOpen c.0) (so_far.quiet is) opened

    did_wait : (NothingWaits (client_at c.0 now) → ⊥) → NothingWaits (client_at c.0 old) → ⊥
    did_wait waits none = go waited refl
      where
        go : (b : Bool) → waited ≡ b → ⊥
        go true is = so_far.some is none
        go false is = waits (subst (λ (s : Seen B). NothingWaits (client_at c.0 s)) (sym (so_far.quiet is)) none)

    pub took_more : (n : ℕ) → Sends known c max now (S.Took n) new → HasWritten known c.0 0 true old new
    took_more n sends =
        let is = took known c now new front max offers settling_now n sends in
        record {
          low = omega arith;
          thirst = let later = so_far.thirst.later in let more = is.dry in record { later = omega (arith, later, more); risen = omega (arith, later, more) };
          drought = omega arith;
          sources = sources_both (client_at c.0 old) (client_at c.0 now) (client_at c.0 new) so_far.sources is.sent.sources;
          given = is.sent.given ∙ so_far.given;
          quiet = λ bad. absurd (cc bad);
          some = λ same none. did_wait is.sent.waited none;
          opened = λ same. was_open is.sent.was_opened;
        }

    pub took_none : (dry' : ℕ) → dry' ≡ dry + 1 → dry' < 1000 → Sends known c max now S.Again new → HasWritten known c.0 dry' true old new
    took_none dry' more low sends =
        let is = again known c now new front max offers settling_now sends in
        record {
          low = low;
          thirst = let later = so_far.thirst.later in let risen = so_far.thirst.risen in let then = is.dry.later in let one = is.dry.risen in record { later = omega (arith, later, then); risen = omega (arith, later, risen, then, one, more) };
          drought = let before = so_far.drought in let one = is.drought in omega (arith, before, one, more, low);
          sources = sources_both (client_at c.0 old) (client_at c.0 now) (client_at c.0 new) so_far.sources is.sent.sources;
          given = is.sent.given ∙ so_far.given;
          quiet = λ bad. absurd (cc bad);
          some = λ same none. did_wait is.sent.waited none;
          opened = λ same. was_open is.sent.was_opened;
        }

    pub is_written : Sends known c max now S.Idle new → IsWritten known c.0 waited old new
    is_written sends =
        let is = idle known c now new front max offers settling_now sends in
        record {
          opened = is.opened;
          empty = is.empty;
          sources = sources_both (client_at c.0 old) (client_at c.0 now) (client_at c.0 new) so_far.sources (sources_same (client_at c.0 now) (client_at c.0 new) is.same);
          only = record {
            given = ap (λ (r : ConnectionRecord). r.given) is.quiet ∙ so_far.given;
            quiet = λ none. is.quiet ∙ ap (λ (s : Seen B). known.connection s.bay c.0) (so_far.quiet none);
          };
          none = λ none. go waited refl none;
        }
      where
        go : (b : Bool) → waited ≡ b → NothingWaits (client_at c.0 old) → waited ≡ false
        go true is none = absurd (so_far.some is none)
        go false is none = is

    -- it is stalled
    pub stalls : CauseCame B → (dry' : ℕ) → dry' ≡ dry + 1 → dry' ≡ 1000 → Sends known c max now S.Again new → (last : Seen B) → EndsOpen known c E.Stalled new last → GoesThrough known (IsOn c.0) old last
    stalls came dry' more full sends last ends =
        let is = again known c now new front max offers settling_now sends in
        let was = was_open is.sent.was_opened in
        closing known keeps came c E.Stalled old new last was.0 is.sent.opened.0 was.1 is.sent.opened.1 (writes_on S.Again sends) ends (λ n. tt)
        (λ phase were_opened steady. (
          (let later = so_far.thirst.later in let risen = so_far.thirst.risen in let then = is.dry.later in let one = is.dry.risen in record { later = omega (arith, later, then); risen = omega (arith, later, risen, then, one, more, full) }),
          (let before = so_far.drought in let one = is.drought in omega (arith, before, one, more, full)),
        ))
        (λ bad. absurd (cc bad))

    -- it ends for want of memory
    pub runs_short : CauseCame B → Sends known c max now S.NoMemory new → (last : Seen B) → EndsOpen known c E.Short new last → GoesThrough known (IsOn c.0) old last
    runs_short came sends last ends =
        let is = short known c now new front max offers settling_now sends in
        let was = was_open is.0 in
        closing known keeps came c E.Short old new last was.0 is.1.0 was.1 is.1.1 (writes_on S.NoMemory sends) ends (λ n. tt) (λ phase were_opened steady. tt) (λ bad. absurd (cc bad))
