-- A client for which nothing waits, and of whose mapped windows nothing is pending, shows exactly the desktop.
use Rattle.std.proofs.Common.{◌≡◌, ◌||◌, ◌&&◌, inl, inr, ℕ, Bool, true, false, List, [], ◌++◌, map, drop, Option, Some, None, refl, ap, ◌∙◌, sym, subst}
use Rattle.std.specs.List.{concat, list_any}
use Rattle.std.specs.Prelude.{is_some, IsSome, IsSomeAnd, Result, Ok, Err, OnOk, IfErr}
use Rattle.std.proofs.lemmas.List.{append-nil}
use Rattle.xp_base.specs.Counts.{Rose}
use Rattle.link_bay.specs.Connections.{ConnectionRecord}
use Rattle.window_model.specs.Desktop.{Window, IsDesktop, has_window}
use Rattle.first_script.specs.declared.paint.Paint.{Paint}
use Rattle.first_script.specs.Validity.{ArePaints}
use Rattle.packet_kinds.specs.Written.{Show}
use Rattle.client_connection.specs.declared.packet.Packet.{Packet}
use Rattle.client_connection.specs.declared.source.Source.{Source}
use Rattle.session_core.specs.Calm.{AreClean, IsCalm}
use Rattle.client_connection.specs.declared.ends.End.{End}
use Rattle.client_connection.specs.declared.ends.End.TheVariants as E
use Rattle.client_connection.specs.declared.ends.End.TheVariants.{Settled}
use Rattle.session_core.specs.Causes.{IsSettled, EndMeans, RoundsMean, SettlingMeans, HasCause}
use Rattle.session_core.specs.Ends.{rounds_end}
use Rattle.session_core.specs.State.{open_client}
use Rattle.client_connection.specs.Clients.{ClientSeen, front_rest}
use Rattle.client_connection.specs.Delivery.{find_source}
use Rattle.session_core.specs.Slots.{AreKnown, AreTold}
use Rattle.client_connection.specs.Given.{IsKnown, IsGivenFor}
use Rattle.client_connection.specs.Owed.{client_owes, source_owes, draw_relieves}
use Rattle.xp_base.specs.Points.{is_within}
use Rattle.xp_base.specs.Grid.{place_of}
use Rattle.client_connection.specs.PointSets.{PointSet, has, HasNone}
use Rattle.session_core.specs.Settling.{ShowsItsMapped}
use Rattle.client_connection.specs.Shown.{shows, Differs, unsent}
use Rattle.client_connection.specs.Told.{IsTold, IsToldFor, layout}
use Rattle.client_connection.specs.Wire.{client_limit}
use Rattle.client_connection.proofs.Givens.{has_hello}
use Rattle.client_connection.proofs.Knowns.{marked}
use Rattle.session_core.proofs.Meanings.{HasWaited, rose_some, breaks_off}
use Rattle.client_connection.proofs.Owing.{any_found, sources_distinct}
use Rattle.client_connection.proofs.Shown.{owes_what_differs, will_show, desk_sized}
use Rattle.client_connection.proofs.Sources.{source_where}

-- nothing is to be sent
nothing_unsent : (packets : List Packet) (taken : ℕ) → packets ≡ [] → front_rest packets taken ++ concat (map (λ (p : Packet). p.bytes) (drop 1 packets)) ≡ []
nothing_unsent packets taken none = ap (λ (ps : List Packet). front_rest ps taken ++ concat (map (λ (p : Packet). p.bytes) (drop 1 ps))) none

calm_show : (desk : List Window) (c : ClientSeen) (sent : List ℕ) → IsTold desk c sent → c.greeted ≡ true → c.packets ≡ [] → (after : List Window) × Show client_limit sent after × (layout after ≡ layout desk)
calm_show desk c sent told greeted none =
    let will = will_show desk c sent told greeted in
    let all : sent ++ unsent c ≡ sent = ap (λ bs. sent ++ bs) (nothing_unsent c.packets c.taken none) ∙ append-nil sent in
    (will.0, subst (λ bs. Show client_limit bs will.0) all will.1, will.2)

calm_clean : (desk : List Window) (c : ClientSeen) (sent : List ℕ) → IsTold desk c sent → c.greeted ≡ true → c.packets ≡ [] → Show client_limit sent (shows sent)
calm_clean desk c sent told greeted none =
    let show = calm_show desk c sent told greeted none in
    subst (Show client_limit sent) (sym (ap (λ p. p.windows) show.1.shown)) show.1

calm_laid : (desk : List Window) (c : ClientSeen) (sent : List ℕ) → IsTold desk c sent → c.greeted ≡ true → c.packets ≡ [] → layout (shows sent) ≡ layout desk
calm_laid desk c sent told greeted none =
    let show = calm_show desk c sent told greeted none in
    ap layout (ap (λ p. p.windows) show.1.shown) ∙ show.2

none_has : (p : PointSet) (x y : ℕ) → HasNone p → has p x y ≡ false
none_has p x y none = ap (λ b. is_within p.w p.h x y && b) (none (place_of p.w x y)) ∙ and_false (is_within p.w p.h x y)
  where
    and_false : (b : Bool) → (b && false) ≡ false
    and_false true = refl
    and_false false = refl

calm_same : (desk : List Window) (c : ClientSeen) (sent : List ℕ) (wid x y : ℕ) (s : Source) → IsDesktop desk → IsTold desk c sent → c.greeted ≡ true → c.packets ≡ [] → AreClean desk (Some c)
    → find_source c.sources wid ≡ Some s → s.mapped ≡ true → Differs desk (shows sent) wid x y → ⊥
calm_same desk c sent wid x y s is told greeted none clean source mapped differs =
    let d = told.delivered greeted in
    let there : has_window desk wid ≡ true = sym (source_where desk c.sources wid d.sourced) ∙ ap is_some source in
    let owed : client_owes wid x y c ≡ true = owes_what_differs desk c sent (desk_sized desk is) told greeted wid x y differs in
    let pending : list_any (λ (t : Source). source_owes wid x y t) c.sources ≡ false =
    any_found c.sources wid x y s (sources_distinct desk c.sources d.sourced is.distinct) source ∙ none_has s.pending x y (clean wid there s source mapped) in
    let waiting : list_any (λ (p : Packet). draw_relieves wid x y p.draw) c.packets ≡ false = ap (list_any (λ (p : Packet). draw_relieves wid x y p.draw)) none in
    absurd (cc (sym owed ∙ ap (λ b. b || list_any (λ (p : Packet). draw_relieves wid x y p.draw) c.packets) pending ∙ waiting))

pub settled_means : (tells : Bool) (lines : List Paint) (desk : List Window) (c : ClientSeen) (r : ConnectionRecord) → IsDesktop desk → ArePaints lines → IsToldFor desk c r.sent → IsKnown tells lines desk c r → IsCalm desk (Some c) → HasWaited r
    → IsSettled lines desk r
settled_means tells lines desk c r is paints told known calm waited = record {
  read_out = waited.0;
  waited = waited.1;
  said = λ given gave. has_hello lines c given (subst (IsGivenFor lines c) gave known.given) calm.attached;
  shows = λ sent at.
      let kept : IsTold desk c sent = subst (IsToldFor desk c) at told in
      record {
        clean = calm_clean desk c sent kept calm.attached (calm.sent c refl);
        laid = calm_laid desk c sent kept calm.attached (calm.sent c refl);
        same = λ wid x y maps.
            let source = marked lines desk c wid r.sent r.given r.heard paints known.given known.heard maps in
            calm_same desk c sent wid x y source.0 is kept calm.attached (calm.sent c refl) calm.clean source.1 source.2;
      };
}

-- after its rounds a connection has ended rightly
pub calm_settled : (connection : ℕ → ConnectionRecord) (tells : Bool) (lines : List Paint) (desk : List Window) (clients : List (Option ClientSeen)) (k : ℕ) → IsDesktop desk → ArePaints lines → AreTold connection desk clients
    → AreKnown tells connection lines desk clients → IsCalm desk (open_client clients k) → HasWaited (connection k) → IsSettled lines desk (connection k)
calm_settled connection tells lines desk clients k is paints told known calm waited = go (open_client clients k) refl calm
  where
    go : (o : Option ClientSeen) → open_client clients k ≡ o → IsCalm desk o → IsSettled lines desk (connection k)
    go None here calm = absurd calm.attached
    go (Some c) here calm = settled_means tells lines desk c (connection k) is paints (told k c here) (known k c here) calm waited

-- what an end of rounds means of the whole connection
end_rounds : (lines : List Paint) (desk : List Window) (was r : ConnectionRecord) (e : End) → RoundsMean lines was e r → EndMeans lines desk e r
end_rounds lines desk was r E.Settled means = absurd means
end_rounds lines desk was r E.Unbuilt (inl broken) = inl (breaks_off lines was r broken)
end_rounds lines desk was r E.Unbuilt (inr (rose, unheard)) = inr (rose_some was.waits r.waits rose, unheard)
end_rounds lines desk was r E.Short means = tt
end_rounds lines desk was r E.Unended means = absurd means

pub rounds_mean : {A : Type 0} (lines : List Paint) (desk : List Window) (was r : ConnectionRecord) (rounds : Result A End) → OnOk rounds (IsSettled lines desk r) → IfErr rounds (λ e. RoundsMean lines was e r)
    → EndMeans lines desk (rounds_end rounds) r
rounds_mean lines desk was r (Ok done) settled means = settled
rounds_mean lines desk was r (Err e) settled means = end_rounds lines desk was r e means

-- and of what settling did to it
settling_end : (lines : List Paint) (was r : ConnectionRecord) (e : End) → RoundsMean lines was e r → SettlingMeans lines was e r
settling_end lines was r E.Settled means = absurd means
settling_end lines was r E.Unbuilt means = means
settling_end lines was r E.Short means = tt
settling_end lines was r E.Unended means = absurd means

pub settling_rounds : {A : Type 0} (lines : List Paint) (was r : ConnectionRecord) (rounds : Result A End) → OnOk rounds (Rose was.waits r.waits) → IfErr rounds (λ e. RoundsMean lines was e r) → SettlingMeans lines was (rounds_end rounds) r
settling_rounds lines was r (Ok done) waited means = waited
settling_rounds lines was r (Err e) waited means = settling_end lines was r e means

-- what is known is the same
pub since_as : (lines lines' : List Paint) (was r r' : ConnectionRecord) (e : End) → lines' ≡ lines → r' ≡ r → SettlingMeans lines was e r → SettlingMeans lines' was e r'
since_as lines lines' was r r' e same stays means =
    subst (λ (ls : List Paint). SettlingMeans ls was e r') (sym same) (subst (SettlingMeans lines was e) (sym stays) means)

pub ok_both : {A E : Type 0} (r : Result A E) {P Q R : Type 0} → (P → Q → R) → OnOk r P → OnOk r Q → OnOk r R
ok_both (Ok a) f p q = f p q
ok_both (Err e) f p q = p

-- what is known is the same
pub right_as : (tells : Bool) (lines lines' : List Paint) (desk desk' : List Window) (e : End) (r r' : ConnectionRecord) → lines' ≡ lines → desk' ≡ desk → r' ≡ r → HasCause tells lines desk e r → HasCause tells lines' desk' e r'
right_as tells lines lines' desk desk' e r r' same still stays right =
    subst (λ (ls : List Paint). HasCause tells ls desk' e r') (sym same) (subst (λ (ws : List Window). HasCause tells lines ws e r') (sym still) (subst (HasCause tells lines desk e) (sym stays) right))

-- and in no window that is marked as mapped a pixel differs
pub calm_mapped : (connection : ℕ → ConnectionRecord) (desk : List Window) (clients : List (Option ClientSeen)) (k : ℕ) → IsDesktop desk → AreTold connection desk clients → IsCalm desk (open_client clients k)
    → ShowsItsMapped desk (open_client clients k) (connection k).sent
calm_mapped connection desk clients k is told calm = λ c sent wid x y s here at source mapped differs.
    let calm_here : IsCalm desk (Some c) = subst (IsCalm desk) here calm in
    let kept : IsTold desk c sent = subst (IsToldFor desk c) at (told k c here) in
    calm_same desk c sent wid x y s is kept calm_here.attached (calm_here.sent c refl) calm_here.clean source mapped differs

-- rounds that end `Settled` went well
pub rounds_well : {A : Type 0} (lines : List Paint) (was r : ConnectionRecord) (rounds : Result A End) {P : Type 0} → IfErr rounds (λ e. RoundsMean lines was e r) → rounds_end rounds ≡ Settled → OnOk rounds P → P
rounds_well lines was r (Ok done) means is on = on
rounds_well lines was r (Err e) means is on = absurd (subst (λ (d : End). RoundsMean lines was d r) is means)

pub on_ok : {A E : Type 0} (r : Result A E) {P : Type 0} → P → OnOk r P
on_ok (Ok a) p = p
on_ok (Err e) p = tt

pub attached_open : (o : Option ClientSeen) → IsSomeAnd o (λ (c : ClientSeen). c.greeted ≡ true) → IsSome o
attached_open None on = absurd on
attached_open (Some c) on = refl

pub not_there : {A : Type 0} (o : Option A) → (IsSome o → ⊥) → o ≡ None
not_there None off = refl
not_there (Some a) off = absurd (off refl)
