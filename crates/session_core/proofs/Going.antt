-- Settling goes on from turn to turn.
use Rattle.std.proofs.Common.{◌≡◌, inl, inr, ℕ, Bool, List, [], ◌++◌, length, refl, ◌∙◌, sym, subst}
use Rattle.std.proofs.lemmas.List.{append-nil}
use Rattle.link_bay.specs.Connections.{ConnectionRecord, OthersStay}
use Rattle.link_bay.specs.Provider.{ProviderRecord}
use Rattle.window_model.specs.Desktop.{Window}
use Rattle.first_script.specs.declared.paint.Paint.{Paint}
use Rattle.session_core.specs.declared.answers.Accepted.{Accepted}
use Rattle.session_core.specs.declared.answers.Accepted.TheVariants as A
use Rattle.client_connection.specs.declared.ends.End.{End}
use Rattle.session_core.specs.Causes.{EndsHaveCauses}
use Rattle.session_core.specs.Ends.{KeepsEnds}
use Rattle.session_core.specs.Settling.{SettlesOne, SettlesOn}
use Rattle.session_core.specs.State.{Seen, KeepsWindows}
use Rattle.session_core.specs.Steps.{Accepts, accepted_ends}
use Rattle.session_core.proofs.Ended.{keeps_same, keeps_accepted}
use Rattle.session_core.proofs.Acting.{settling_none, settling_once, settling_on}
use Rattle.session_core.proofs.Rightly.{EndsOneFor, rightly_same, rightly_on, rightly_accepted, rightly_one, rightly_to, stays_one, stays_accepted, end_stays}

pub goes_none : {B : Type 0} (provider : B → ProviderRecord) (connection : B → ℕ → ConnectionRecord) (tells : Bool) (s : Seen B) → SettlesOn provider connection tells s s
goes_none provider connection tells s = record {
  causes = rightly_same tells s.lines s.desk (connection s.bay) s.ends;
  stays = λ k e there closed. refl;
  settling = settling_none provider connection tells s;
}

accepted_rightly : (tells : Bool) (lines : List Paint) (desk : List Window) (connection : ℕ → ConnectionRecord) (ends : List End) (answer : Accepted) → EndsHaveCauses tells lines desk connection ends (ends ++ accepted_ends answer)
accepted_rightly tells lines desk connection ends A.Full = rightly_to tells lines desk connection ends ends _ (append-nil ends) (rightly_same tells lines desk connection ends)
accepted_rightly tells lines desk connection ends (A.Conn c) = rightly_accepted tells lines desk connection ends
accepted_rightly tells lines desk connection ends A.Nobody = rightly_to tells lines desk connection ends ends _ (append-nil ends) (rightly_same tells lines desk connection ends)
accepted_rightly tells lines desk connection ends A.Failed = rightly_to tells lines desk connection ends ends _ (append-nil ends) (rightly_same tells lines desk connection ends)
accepted_rightly tells lines desk connection ends A.NoMemory = rightly_to tells lines desk connection ends ends _ (append-nil ends) (rightly_same tells lines desk connection ends)

-- somebody was accepted, or nobody
pub goes_accepted : {B : Type 0} (provider : B → ProviderRecord) (connection : B → ℕ → ConnectionRecord) (tells : Bool) (old new : Seen B) (answer : Accepted) → length old.ends ≡ (provider old.bay).count
    → OthersStay (connection old.bay) (connection new.bay) (provider old.bay).count → new.ends ≡ old.ends ++ accepted_ends answer → Accepts provider connection tells old answer new → SettlesOn provider connection tells old new
goes_accepted provider connection tells old new answer counted others ends accepts = record {
  causes = rightly_to tells new.lines new.desk (connection new.bay) old.ends (old.ends ++ accepted_ends answer) new.ends ends (accepted_rightly tells new.lines new.desk (connection new.bay) old.ends answer);
  stays = stays_accepted (connection old.bay) (connection new.bay) old.ends (provider old.bay).count counted others;
  settling = settling_once provider connection tells old new (inl (answer, accepts, others));
}

-- a connection was settled
pub goes_settled : {B : Type 0} (provider : B → ProviderRecord) (connection : B → ℕ → ConnectionRecord) (tells : Bool) (old new : Seen B) (k : ℕ) (e : End)
    → EndsOneFor tells new.lines new.desk (connection old.bay) (connection new.bay) old.ends new.ends e → SettlesOne provider connection k old new → SettlesOn provider connection tells old new
goes_settled provider connection tells old new k e one settles = record {
  causes = rightly_one tells new.lines new.desk (connection old.bay) (connection new.bay) old.ends new.ends e one;
  stays = stays_one tells new.lines new.desk (connection old.bay) (connection new.bay) old.ends new.ends e one;
  settling = settling_once provider connection tells old new (inr (k, settles));
}

pub windows_right : (tells : Bool) (lines lines' : List Paint) (desk desk' : List Window) (connection : ℕ → ConnectionRecord) (old new : List End) → lines' ≡ lines → desk' ≡ desk → EndsHaveCauses tells lines desk connection old new
    → EndsHaveCauses tells lines' desk' connection old new
windows_right tells lines lines' desk desk' connection old new same still right =
    subst (λ (ls : List Paint). EndsHaveCauses tells ls desk' connection old new) (sym same) (subst (λ (ws : List Window). EndsHaveCauses tells lines ws connection old new) (sym still) right)

-- one after the other
pub goes_on : {B : Type 0} (provider : B → ProviderRecord) (connection : B → ℕ → ConnectionRecord) (tells : Bool) (old mid new : Seen B) → KeepsWindows mid new → KeepsEnds old.ends mid.ends → KeepsEnds mid.ends new.ends
    → SettlesOn provider connection tells old mid → SettlesOn provider connection tells mid new → SettlesOn provider connection tells old new
goes_on provider connection tells old mid new windows kept keeps first second = record {
  causes = rightly_on tells new.lines new.desk (connection mid.bay) (connection new.bay) old.ends mid.ends new.ends keeps second.stays
      (windows_right tells mid.lines new.lines mid.desk new.desk (connection mid.bay) old.ends mid.ends windows.lines windows.desk first.causes) second.causes;
  stays = λ k e there closed. second.stays k e (end_stays old.ends mid.ends k e kept there closed) closed ∙ first.stays k e there closed;
  settling = settling_on provider connection tells old mid new first.settling second.settling;
}

-- an accept keeps the ends
pub keeps_answer : (old new : List End) (answer : Accepted) → new ≡ old ++ accepted_ends answer → KeepsEnds old new
keeps_answer old new answer is = subst (KeepsEnds old) (sym is) (go answer)
  where
    same : KeepsEnds old (old ++ [])
    same = subst (KeepsEnds old) (sym (append-nil old)) (keeps_same old)

    go : (answer : Accepted) → KeepsEnds old (old ++ accepted_ends answer)
    go A.Full = same
    go (A.Conn c) = keeps_accepted old
    go A.Nobody = same
    go A.Failed = same
    go A.NoMemory = same
