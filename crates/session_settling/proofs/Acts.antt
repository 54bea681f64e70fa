-- Acts that follow one another.
use Rattle.std.proofs.Common.{◌≡◌, ℕ, Bool, Option, Some, List, [], ◌∷◌, ◌++◌, refl, subst}
use Rattle.xp_base.specs.declared.numbers.Conn.{Conn}
use Rattle.window_model.specs.Desktop.{Window}
use Rattle.connection_table.specs.Tables.{open_at}
use Rattle.connection_ends.specs.Causes.{HasCause}
use Rattle.connection_ends.specs.declared.end.End.{End}
use Rattle.connection_ends.specs.declared.end.End.TheVariants as E
use Rattle.open_connection.specs.Connection.{ConnectionSeen}
use Rattle.session_steps.specs.Seen.{Known, Seen}
use Rattle.session_steps.specs.Settling.{Act, Closing, ActsSo, SettlesBy, settling_from, ShowsTheDesktop, EndsWhere, EndsOpen, SettlingKeeps, CauseCame}
use Rattle.session_steps.specs.Steady.{Phase, TakerIsKnown, IsSteady}
use Rattle.session_settling.specs.Through.{IsSettling, AllMay, GoesThrough, IsOn, IsAny}

all_both : (May : Act → Type 0) (xs ys : List Act) → AllMay May xs → AllMay May ys → AllMay May (xs ++ ys)
all_both May [] ys may may' = may'
all_both May (x ∷ xs) ys may may' = (may.0, all_both May xs ys may.1 may')

all_any : (xs : List Act) → AllMay IsAny xs
all_any [] = tt
all_any (x ∷ xs) = (tt, all_any xs)

by_both : {B : Type 0} (known : Known B) (phase : Phase) (xs ys : List Act) (a b c : Seen B) → SettlesBy known phase xs a b → SettlesBy known phase ys b c → SettlesBy known phase (xs ++ ys) a c
by_both known phase [] ys a b c by by' = subst (λ (s : Seen _). SettlesBy known phase ys s c) by by'
by_both known phase (x ∷ xs) ys a b c by by' = (by.0, by.1, by_both known phase xs ys by.0 b c by.2 by')

module _ {B : Type 0} (known : Known B) where
  pub stays : (May : Act → Type 0) (s : Seen B) → GoesThrough known May s s
  stays May s began were_opened steady = record { acts = []; may = tt; by = refl }

  pub one_act : (May : Act → Type 0) (act : Act) (a b : Seen B) → May act → ((phase : Phase) → ActsSo known phase act a b) → GoesThrough known May a b
  one_act May act a b may so began were_opened steady = record { acts = act ∷ []; may = (may, tt); by = (b, so (settling_from known began), refl) }

  pub any_acts : (May : Act → Type 0) (a b : Seen B) → GoesThrough known May a b → GoesThrough known IsAny a b
  any_acts May a b through began were_opened steady = let by = through began were_opened steady in record { acts = by.acts; may = all_any by.acts; by = by.by }

  module _ (keeps : SettlingKeeps B) where
    pub steady_then : (May : Act → Type 0) (a b : Seen B) → GoesThrough known May a b → (began : Seen B) (were_opened : ℕ → Bool) → IsSteady known (settling_from known began) were_opened a
        → IsSteady known (settling_from known began) were_opened b
    steady_then May a b through began were_opened steady = let by = through began were_opened steady in keeps known (settling_from known began) were_opened by.acts a b by.by steady

    pub settling_then : (May : Act → Type 0) (a b : Seen B) → IsSettling known a → GoesThrough known May a b → IsSettling known b
    settling_then May a b settling through = (settling.0, settling.1, steady_then May a b through settling.0 settling.1 settling.2)

    pub both : (May : Act → Type 0) (a b c : Seen B) → GoesThrough known May a b → GoesThrough known May b c → GoesThrough known May a c
    both May a b c first second began were_opened steady =
        let by = first began were_opened steady in
        let by' = second began were_opened (steady_then May a b first began were_opened steady) in
        record { acts = by.acts ++ by'.acts; may = all_both May by.acts by'.acts by.may by'.may; by = by_both known (settling_from known began) by.acts by'.acts a b c by.by by'.by }

    -- a connection that was open at s, and still is, ends with a cause that came since then
    pub closing : CauseCame B → (c : Conn) (e : End) (s now new : Seen B) (was connection : ConnectionSeen) → open_at s.slots c.0 ≡ Some was → open_at now.slots c.0 ≡ Some connection → GoesThrough known (IsOn c.0) s now
        → EndsOpen known c e now new → ((n : ℕ) → TakerIsKnown n e)
        → ((phase : Phase) (were_opened : ℕ → Bool) → IsSteady known phase were_opened now → HasCause now.desk (known.connection s.bay) (known.connection now.bay) c.0 e)
        → (e ≡ E.Settled → (phase : Phase) (were_opened : ℕ → Bool) → IsSteady known phase were_opened now → ShowsTheDesktop now.desk connection (known.connection now.bay c.0))
        → GoesThrough known (IsOn c.0) s new
    closing came c e s now new was connection opened_then opened through ends taker cause shown began were_opened steady =
        let phase = settling_from known began in
        let by = through began were_opened steady in
        let mid = steady_then (IsOn c.0) s now through began were_opened steady in
        let here = subst (λ (o : Option ConnectionSeen). EndsWhere known o c e now new) opened ends in
        record {
          acts = by.acts ++ Closing c e ∷ [];
          may = all_both (IsOn c.0) by.acts (Closing c e ∷ []) by.may (refl, tt);
          by = by_both known phase by.acts (Closing c e ∷ []) s now new by.by (
            new,
            record {
              connection = connection;
              opened = opened;
              taker = taker (known.provider now.bay).count;
              cause = came known were_opened began s c.0 was (known.connection now.bay) e steady opened_then
                  (subst (λ (d : List Window). HasCause d (known.connection s.bay) (known.connection now.bay) c.0 e) mid.since.0 (cause phase were_opened mid));
              shown = λ is. shown is phase were_opened mid;
              provider = here.provider;
              connections = here.connections;
              changed = here.changed;
            },
            refl,
          );
        }
