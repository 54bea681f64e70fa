-- A read while a session is settled.
use Rattle.std.proofs.Common.{◌≡◌, ℕ, ◌-◌, ◌≤◌, Bool, true, false, Option, Some, None, List, [], ◌++◌, set, length, refl, sym, ap, ◌∙◌, subst, arith}
use Rattle.std.specs.Prelude.{is_some}
use Rattle.std.proofs.lemmas.List.{length-append, append-nil, append_assoc}
use Rattle.xp_base.specs.Counts.{Rose}
use Rattle.xp_base.specs.Told.{told_append}
use Rattle.xp_base.specs.declared.numbers.Conn.{Conn}
use Rattle.link_bay.specs.Connections.{ConnectionRecord}
use Rattle.link_bay.specs.Answers.{ReadGives}
use Rattle.link_bay.specs.declared.bay.Gave.{Gave}
use Rattle.link_bay.specs.declared.bay.Gave.TheVariants as G
use Rattle.connection_table.specs.Tables.{Slot, Open, Ended, opened, open_at}
use Rattle.connection_ends.specs.Causes.{GaveMore}
use Rattle.connection_ends.specs.declared.end.End.{End}
use Rattle.open_connection.specs.Connection.{ConnectionSeen}
use Rattle.open_connection.specs.declared.heard.Heard.{Heard}
use Rattle.open_connection.specs.declared.heard.Heard.TheVariants as H
use Rattle.session_steps.specs.declared.answers.Received.{Received}
use Rattle.session_steps.specs.declared.answers.Received.TheVariants as R
use Rattle.session_steps.specs.Seen.{Known, Seen}
use Rattle.session_steps.specs.Slots.{overtaken}
use Rattle.session_steps.specs.Reading.{read_limit, HeardGives, ReadComesTo, ReceivesFrom, Receives}
use Rattle.session_settling.specs.Reading.{StaysOpen, UsesUp}
use Rattle.session_settling.proofs.Places.{open_there, ended_there, over_there}

-- the connection goes on after such an answer
abbrev pub goes_on : Received → Bool
goes_on R.Closed = false
goes_on (R.Took n) = true
goes_on R.Again = true
goes_on (R.Ended e) = false
goes_on R.NoMemory = false

module _ {B : Type 0} (known : Known B) (c : Conn) (old new : Seen B) where
  abbrev before : ConnectionRecord
  before = known.connection old.bay c.0

  abbrev after : ConnectionRecord
  after = known.connection new.bay c.0

  pub record TookSo (n : ℕ) : Type 0 where
    pub opened : StaysOpen c.0 new
    pub bytes : List ℕ
    pub many : length bytes ≡ n
    pub some : 1 ≤ n
    pub given : after.given ≡ told_append before.given bytes
    pub waits : before.waits ≤ after.waits

  pub record AgainSo : Type 0 where
    pub opened : StaysOpen c.0 new
    pub same : open_at new.slots c.0 ≡ open_at old.slots c.0
    pub given : after.given ≡ before.given
    pub waited : Rose before.waits after.waits
    pub heard : after.unheard ≡ 0

  module _ (connection : ConnectionSeen) (was : open_at old.slots c.0 ≡ Some connection) where
    took_bytes : (n m : ℕ) (later : ConnectionSeen) (ignored : ℕ) (bytes : List ℕ) (behind : ConnectionRecord) → ReadGives before behind [] bytes read_limit (G.Bytes m) → R.Took n ≡ R.Took m → after ≡ behind
        → open_at new.slots c.0 ≡ open_at (set (overtaken c (is_some connection.client) later.client old.slots) c.0 (Open later)) c.0 → TookSo n
    took_bytes n m later ignored bytes behind read answer same now =
        let over = overtaken c (is_some connection.client) later.client old.slots in
        let many : n ≡ m = cc answer in
        record {
          opened = (later, now ∙ open_there over c.0 connection later (ap opened (over_there c (is_some connection.client) later.client old.slots) ∙ was));
          bytes = read.0;
          many = read.1 ∙ sym many;
          some = subst (λ k. 1 ≤ k) (sym many) read.2;
          given = ap (λ (r : ConnectionRecord). r.given) (same ∙ read.5);
          waits = let n = ap (λ (r : ConnectionRecord). r.waits) (same ∙ read.5) in omega (arith, n);
        }

    took_heard : (n m : ℕ) (later : ConnectionSeen) (heard : Heard) (bytes : List ℕ) (behind : ConnectionRecord) → ReadGives before behind [] bytes read_limit (G.Bytes m) → HeardGives c connection later m old behind after heard (R.Took n) new → TookSo n
    took_heard n m later (H.GoesOn ignored) bytes behind read gives = took_bytes n m later ignored bytes behind read gives.0 gives.1 (ap (λ (s : Seen B). open_at s.slots c.0) gives.2)
    took_heard n m later (H.Ends ending ignored) bytes behind read gives = absurd (cc gives.0)
    took_heard n m later (H.NoMemory ignored) bytes behind read gives = absurd (cc gives.0)

    took_read : (n : ℕ) (gave : Gave) (bytes : List ℕ) (behind : ConnectionRecord) → ReadGives before behind [] bytes read_limit gave → ReadComesTo c connection bytes old behind after gave (R.Took n) new → TookSo n
    took_read n (G.Bytes m) bytes behind read comes = took_heard n m comes.after comes.heard bytes behind read comes.gives
    took_read n G.Again bytes behind read comes = absurd (cc comes.0)
    took_read n G.End bytes behind read comes = absurd (cc comes.0)
    took_read n G.Failed bytes behind read comes = absurd (cc comes.0)
    took_read n G.NoMemory bytes behind read comes = absurd (cc comes.0)

    again_heard : (m : ℕ) (later : ConnectionSeen) (heard : Heard) (behind : ConnectionRecord) → HeardGives c connection later m old behind after heard R.Again new → AgainSo
    again_heard m later (H.GoesOn ignored) behind gives = absurd (cc gives.0)
    again_heard m later (H.Ends ending ignored) behind gives = absurd (cc gives.0)
    again_heard m later (H.NoMemory ignored) behind gives = absurd (cc gives.0)

    again_read : (gave : Gave) (bytes : List ℕ) (behind : ConnectionRecord) → ReadGives before behind [] bytes read_limit gave → ReadComesTo c connection bytes old behind after gave R.Again new → AgainSo
    again_read (G.Bytes m) bytes behind read comes = again_heard m comes.after comes.heard behind comes.gives
    again_read G.Again bytes behind read comes =
        let now = ap (λ (s : Seen B). open_at s.slots c.0) comes.2 in
        record {
          opened = (connection, now ∙ was);
          same = now;
          given = ap (λ (r : ConnectionRecord). r.given) (comes.1 ∙ read.2);
          waited = subst (λ (r : ConnectionRecord). Rose before.waits r.waits) (sym comes.1) read.1;
          heard = ap (λ (r : ConnectionRecord). r.unheard) (comes.1 ∙ read.2);
        }
    again_read G.End bytes behind read comes = absurd (cc comes.0)
    again_read G.Failed bytes behind read comes = absurd (cc comes.0)
    again_read G.NoMemory bytes behind read comes = absurd (cc comes.0)

    closed_now : (slots : List (Slot ConnectionSeen End)) (e : End) → new.slots ≡ set slots c.0 (Ended e) → open_at new.slots c.0 ≡ None
    closed_now slots e now = ap (λ (ss : List (Slot ConnectionSeen End)). open_at ss c.0) now ∙ ended_there slots c.0 e

    over_heard : (answer : Received) (m : ℕ) (later : ConnectionSeen) (heard : Heard) (behind : ConnectionRecord) → goes_on answer ≡ false → HeardGives c connection later m old behind after heard answer new → open_at new.slots c.0 ≡ None
    over_heard answer m later (H.GoesOn ignored) behind over gives = let bad : false ≡ true = sym over ∙ ap goes_on gives.0 in absurd (cc bad)
    over_heard answer m later (H.Ends ending ignored) behind over gives = closed_now (overtaken c (is_some connection.client) later.client old.slots) _ (ap (λ (s : Seen B). s.slots) gives.2)
    over_heard answer m later (H.NoMemory ignored) behind over gives = closed_now (overtaken c (is_some connection.client) later.client old.slots) _ (ap (λ (s : Seen B). s.slots) gives.2)

    over_read : (answer : Received) (gave : Gave) (bytes : List ℕ) (behind : ConnectionRecord) → goes_on answer ≡ false → ReadComesTo c connection bytes old behind after gave answer new → open_at new.slots c.0 ≡ None
    over_read answer (G.Bytes m) bytes behind over comes = over_heard answer m comes.after comes.heard behind over comes.gives
    over_read answer G.Again bytes behind over comes = let bad : false ≡ true = sym over ∙ ap goes_on comes.0 in absurd (cc bad)
    over_read answer G.End bytes behind over comes = closed_now old.slots _ (ap (λ (s : Seen B). s.slots) comes.2)
    over_read answer G.Failed bytes behind over comes = closed_now old.slots _ (ap (λ (s : Seen B). s.slots) comes.2)
    over_read answer G.NoMemory bytes behind over comes = closed_now old.slots _ (ap (λ (s : Seen B). s.slots) comes.2)

  pub took : (n : ℕ) → Receives known c old (R.Took n) new → TookSo n
  took n = go (open_at old.slots c.0) refl
    where
      go : (o : Option ConnectionSeen) → open_at old.slots c.0 ≡ o → ReceivesFrom known c o old (R.Took n) new → TookSo n
      go None was receives = absurd (cc receives.0)
      go (Some connection) was reads = took_read connection was n reads.gave reads.bytes reads.behind reads.read reads.comes

  pub again : Receives known c old R.Again new → AgainSo
  again = go (open_at old.slots c.0) refl
    where
      go : (o : Option ConnectionSeen) → open_at old.slots c.0 ≡ o → ReceivesFrom known c o old R.Again new → AgainSo
      go None was receives = absurd (cc receives.0)
      go (Some connection) was reads = again_read connection was reads.gave reads.bytes reads.behind reads.read reads.comes

  pub over : (answer : Received) → goes_on answer ≡ false → Receives known c old answer new → open_at new.slots c.0 ≡ None
  over answer ends = go (open_at old.slots c.0) refl
    where
      go : (o : Option ConnectionSeen) → open_at old.slots c.0 ≡ o → ReceivesFrom known c o old answer new → open_at new.slots c.0 ≡ None
      go None was receives = ap (λ (s : Seen B). open_at s.slots c.0) receives.1 ∙ was
      go (Some connection) was reads = over_read connection was answer reads.gave reads.bytes reads.behind ends reads.comes

-- ---- how much more may come

gave_append : (n : ℕ) (o p : Option (List ℕ)) (bytes : List ℕ) → p ≡ told_append o bytes → n ≤ length bytes → GaveMore n o p
gave_append n None p bytes is most = tt
gave_append n (Some a) None bytes is most = tt
gave_append n (Some a) (Some d) bytes is most =
    let same : d ≡ a ++ bytes = cc is in
    let long = ap length same ∙ length-append a bytes in
    omega (arith, most, long)

told_none : (o : Option (List ℕ)) → o ≡ told_append o []
told_none None = refl
told_none (Some a) = ap (λ (xs : List ℕ). Some xs) (sym (append-nil a))

told_both : (o p q : Option (List ℕ)) (xs ys : List ℕ) → p ≡ told_append o xs → q ≡ told_append p ys → q ≡ told_append o (xs ++ ys)
told_both None p q xs ys is then = then ∙ ap (λ (t : Option (List ℕ)). told_append t ys) is
told_both (Some a) p q xs ys is then = then ∙ ap (λ (t : Option (List ℕ)). told_append t ys) is ∙ ap (λ (zs : List ℕ). Some zs) (append_assoc a xs ys)

pub used_read : {B : Type 0} (known : Known B) (c : Conn) (left n : ℕ) (b d : Seen B) → TookSo known c b d n → UsesUp known c.0 left (left - n) b d
used_read known c left n b d read = record { fewer = omega arith; bytes = read.bytes; many = let many = read.many in omega (arith, many); given = read.given }

module _ {B : Type 0} (known : Known B) (k : ℕ) where
  pub used_none : (rest : ℕ) (a b : Seen B) → (known.connection b.bay k).given ≡ (known.connection a.bay k).given → UsesUp known k rest rest a b
  used_none rest a b same = record { fewer = omega arith; bytes = []; many = omega arith; given = same ∙ told_none (known.connection a.bay k).given }

  -- one use after another
  pub used_both : (rest mid left : ℕ) (a b c : Seen B) → UsesUp known k rest mid a b → UsesUp known k mid left b c → UsesUp known k rest left a c
  used_both rest mid left a b c p q = record {
    fewer = let x = p.fewer in let y = q.fewer in omega (arith, x, y);
    bytes = p.bytes ++ q.bytes;
    many = let x = p.many in let y = q.many in let long = length-append p.bytes q.bytes in omega (arith, x, y, long);
    given = told_both (known.connection a.bay k).given (known.connection b.bay k).given (known.connection c.bay k).given p.bytes q.bytes p.given q.given;
  }

  pub used_same : (rest left : ℕ) (a b c : Seen B) → UsesUp known k rest left a b → (known.connection c.bay k).given ≡ (known.connection b.bay k).given → UsesUp known k rest left a c
  used_same rest left a b c used same = used_both rest left left a b c used (used_none left b c same)

  -- all that might come came
  pub used_up : (rest : ℕ) (a b : Seen B) → UsesUp known k rest 0 a b → GaveMore rest (known.connection a.bay k).given (known.connection b.bay k).given
  used_up rest a b used = gave_append rest (known.connection a.bay k).given (known.connection b.bay k).given used.bytes used.given (let many = used.many in omega (arith, many))
