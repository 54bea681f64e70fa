use Rattle.std.proofs.Common.{◌≡◌, ◌++◌, ℕ, List, Bool, true, false, refl, sym, ap, subst, ◌∙◌}
use Rattle.std.specs.Prelude.{Some, None}
use Rattle.client_replay.specs.Replaying.{Replaying, stop_of, stop_at, painting, Replays}
use Rattle.client_replay.proofs.ReplayLemmas.{spent_stays, fault_stays, fed_paints, unfed_replays, replays_ok, replays_bad, replays_part, was_err}
use Rattle.client_replay.proofs.replay.Replay.feed.Goals as goal

pub returns-then-self-clause-history : goal.returns-then-self-clause-history
returns-then-self-clause-history c = λ bytes taken replays.
    spent_stays bytes taken c.args.piece.now c.args.self.now (ap (λ (r : Replaying). r.spent) (sym c.self.view_is) ∙ c.if-self.true) replays

pub returns-in-Some-clause-history : goal.returns-in-Some-clause-history
returns-in-Some-clause-history c = λ bytes taken replays.
    fault_stays bytes taken c.args.piece.now c.args.self.now (stop_at c.in-Some.place c.in-Some.fault)
    (ap (λ (r : Replaying). r.spent) (sym c.self.view_is) ∙ c.if-self.false)
    (ap (λ (r : Replaying). r.fault) (sym c.self.view_is) ∙ ap stop_of c.in-Some.is) replays

pub returns-then-is_err-clause-history : goal.returns-then-is_err-clause-history
returns-then-is_err-clause-history c = λ bytes taken replays.
    unfed_replays bytes taken c.args.piece.now _ (subst (Replays bytes taken) (sym c.self.view_is) replays) c.if-self.false (ap stop_of c.in_default.is) c.feed.new.self
    (was_err _ c.feed.result (sym c.is_err.ensures.value ∙ c.if-is_err.true) c.feed.ensures.err)

pub returns-in-Ok-clause-history : goal.returns-in-Ok-clause-history
returns-in-Ok-clause-history c = λ bytes taken replays.
    let paints =
    fed_paints bytes taken c.args.piece.now _ (subst (Replays bytes taken) (sym c.self.view_is) replays) c.if-self.false (ap stop_of c.in_default.is) c.feed.new.self
    c.feed.result (sym c.is_err.ensures.value ∙ c.if-is_err.false) c.feed.ensures.history in
    replays_ok (bytes ++ c.args.piece.now) taken _ (ap stop_of c.in_default.is) (c.in-Ok.ensures.history (bytes ++ c.args.piece.now) taken paints) c.if-self.false

pub returns-in-Bad-clause-history : goal.returns-in-Bad-clause-history
returns-in-Bad-clause-history c = λ bytes taken replays.
    let paints =
    fed_paints bytes taken c.args.piece.now _ (subst (Replays bytes taken) (sym c.self.view_is) replays) c.if-self.false (ap stop_of c.in_default.is) c.feed.new.self
    c.feed.result (sym c.is_err.ensures.value ∙ c.if-is_err.false) c.feed.ensures.history in
    replays_bad (bytes ++ c.args.piece.now) taken _ (stop_at c.in-Bad.place c.in-Bad.fault) refl (c.in-Bad.ensures.history (bytes ++ c.args.piece.now) taken paints) c.if-self.false

pub returns-in-NoMemory-clause-history : goal.returns-in-NoMemory-clause-history
returns-in-NoMemory-clause-history c = λ bytes taken replays.
    let paints =
    fed_paints bytes taken c.args.piece.now _ (subst (Replays bytes taken) (sym c.self.view_is) replays) c.if-self.false (ap stop_of c.in_default.is) c.feed.new.self
    c.feed.result (sym c.is_err.ensures.value ∙ c.if-is_err.false) c.feed.ensures.history in
    replays_part (bytes ++ c.args.piece.now) taken _ (c.in-NoMemory.ensures.history (bytes ++ c.args.piece.now) taken paints) refl
