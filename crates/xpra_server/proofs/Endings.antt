-- Each connection that has ended has ended rightly, by the script that was read.
use Rattle.std.proofs.Common.{◌≡◌, ◌≢◌, ◌⊎◌, inl, inr, ℕ, Bool, false, Option, Result, Some, None, Ok, Err, List, [], refl, sym, ap, ◌∙◌, subst, get_or}
use Rattle.std.specs.Prelude.{All, IsOk, slice_get, unwrap_or}
use Rattle.std.proofs.lemmas.List.Elements.{All-get_or}
use Rattle.std.proofs.lemmas.Option.{slice_get_within, unwrap_or-slice_get}
use Rattle.xp_base.specs.Told.{told_append, HandsOut, HasNoneLeft}
use Rattle.link_bay.specs.Connections.{ConnectionRecord}
use Rattle.first_script.specs.declared.line.Line.{Line}
use Rattle.first_script.specs.declared.paint.Paint.{Paint}
use Rattle.first_script.specs.Painting.{last_desk}
use Rattle.first_script.specs.Reading.{script_of}
use Rattle.first_script.specs.Validity.{paint_lines, peer_orders}
use Rattle.window_model.specs.Desktop.{Window}
use Rattle.client_connection.specs.declared.ends.End.{End}
use Rattle.client_connection.specs.declared.ends.End.TheVariants as E
use Rattle.session_core.specs.Causes.{EndsHaveCauses, HasCause, IsUnbuiltFor}
use Rattle.session_core.specs.State.{is_unended}
use Rattle.xpra_server.specs.Statuses.{AreEnds, AllHaveCauses, HaveCausesBy, HaveCausesFor, TellsScript, IsTextOf, RanWell}
use Rattle.xpra_server.specs.Report.{report}
use Rattle.link_bay.specs.declared.order.Order.{Order}
use Rattle.xpra_server.specs.Read.{ReadsPast}
use Rattle.xpra_server.proofs.Tops.{all_read, long_script, long_left}

-- nobody was there
pub nobody_ends : (tells : Bool) (paints : List Paint) (connection : ℕ → ConnectionRecord) (ends : List End) → ends ≡ [] → AllHaveCauses tells paints connection ends
nobody_ends tells paints connection ends none = λ k e there closed. absurd (cc (sym (ap (λ (es : List End). slice_get es k) none) ∙ there))

pub nobody_right : (tells : Bool) (left : Option (List ℕ)) (connection : ℕ → ConnectionRecord) (ends : List End) → ends ≡ [] → HaveCausesFor tells left connection ends
nobody_right tells None connection ends none = ([], nobody_ends tells [] connection ends none)
nobody_right tells (Some text) connection ends none = go (script_of text)
  where
    go : (judged : Result (List Line) ℕ) → HaveCausesBy tells judged connection ends
    go (Ok lines) = nobody_ends tells (paint_lines lines) connection ends none
    go (Err number) = none

-- all that have ended were open or unknown when the settling began
pub all_end : (tells : Bool) (lines paints : List Paint) (desk : List Window) (connection : ℕ → ConnectionRecord) (old new : List End) → old ≡ [] → lines ≡ paints → desk ≡ last_desk paints → EndsHaveCauses tells lines desk connection old new
    → AllHaveCauses tells paints connection new
all_end tells lines paints desk connection old new none same last right = λ k e there closed.
    subst (λ (ls : List Paint). HasCause tells ls (last_desk paints) e (connection k)) same
    (subst (λ (ws : List Window). HasCause tells lines ws e (connection k)) last
    (right k e (there, closed, λ was is. absurd (cc (sym (ap (λ (es : List End). slice_get es k) none) ∙ is)))))

-- the ends and the provider are the same
pub causes_as : {B : Type 0} (tells : Bool) (paints : List Paint) (connection : B → ℕ → ConnectionRecord) (bay bay' : B) (ends ends' : List End) → bay' ≡ bay → ends' ≡ ends → AllHaveCauses tells paints (connection bay) ends
    → AllHaveCauses tells paints (connection bay') ends'
causes_as {B} tells paints connection bay bay' ends ends' same still causes =
    subst (λ (b : B). AllHaveCauses tells paints (connection b) ends') (sym same) (subst (λ (es : List End). AllHaveCauses tells paints (connection bay) es) (sym still) causes)

-- the script that was read is that of the input
pub right_of_whole : (tells : Bool) (left left' : Option (List ℕ)) (text : List ℕ) (lines : List Line) (connection : ℕ → ConnectionRecord) (ends : List End) → HandsOut left left' text → HasNoneLeft left' → script_of text ≡ Ok lines
    → AllHaveCauses tells (paint_lines lines) connection ends → HaveCausesFor tells left connection ends
right_of_whole tells None left' text lines connection ends hands none is right = (paint_lines lines, right)
right_of_whole tells (Some bytes) None text lines connection ends hands none is right = absurd hands
right_of_whole tells (Some bytes) (Some rest) text lines connection ends hands none is right =
    subst (λ judged. HaveCausesBy tells judged connection ends) (sym (ap script_of (all_read bytes rest text hands none) ∙ is)) right

all_at : {A : Type 0} (P : A → Type 0) (xs : List A) (k : ℕ) (x : A) → All P xs → slice_get xs k ≡ Some x → P x
all_at P xs k x all there =
    let same : get_or xs k x ≡ x = sym (unwrap_or-slice_get xs k x) ∙ ap (λ o. unwrap_or o x) there in
    subst P same (All-get_or P xs k x (slice_get_within xs k x there) all)

-- where a run has ended well, a connection without a cause of the end `Unbuilt` has ended `Settled`
settled_all : (tells : Bool) (paints : List Paint) (connection : ℕ → ConnectionRecord) (ends : List End) → AreEnds ends → AllHaveCauses tells paints connection ends
    → (k : ℕ) (e : End) → slice_get ends k ≡ Some e → (IsUnbuiltFor paints (connection k) → ⊥) → e ≡ E.Settled
settled_all tells paints connection ends are causes k E.Settled there free = refl
settled_all tells paints connection ends are causes k E.Unbuilt there free = absurd (free (causes k E.Unbuilt there refl).means)
settled_all tells paints connection ends are causes k E.Short there free = absurd (all_at (λ e. e ≢ E.Short) ends k E.Short are.fed there refl)
settled_all tells paints connection ends are causes k E.Unended there free = absurd (cc (all_at (λ e. is_unended e ≡ false) ends k E.Unended are.ended there))

text_of : (left left' : Option (List ℕ)) (text : List ℕ) → HandsOut left left' text → HasNoneLeft left' → IsTextOf left text
text_of None left' text hands none = tt
text_of (Some bytes) None text hands none = absurd hands
text_of (Some bytes) (Some rest) text hands none = sym (all_read bytes rest text hands none)

pub ran_well : (tells : Bool) (left left' taken taken' : Option (List ℕ)) (asked asked' : Option (List Order)) (text : List ℕ) (lines : List Line) (connection : ℕ → ConnectionRecord) (ends : List End) → HandsOut left left' text → HasNoneLeft left'
    → script_of text ≡ Ok lines → taken' ≡ told_append taken (report (last_desk (paint_lines lines)) ends) → asked' ≡ told_append asked (peer_orders lines) → AreEnds ends → AllHaveCauses tells (paint_lines lines) connection ends
    → RanWell tells left taken taken' asked asked' connection ends
ran_well tells left left' taken taken' asked asked' text lines connection ends hands none is written ordered are causes = record {
  text = text;
  lines = lines;
  input = text_of left left' text hands none;
  script = is;
  written = written;
  ordered = ordered;
  causes = causes;
  settled = settled_all tells (paint_lines lines) connection ends are causes;
}

-- an input that tells a script is not refused
pub no_fault : (left left' : Option (List ℕ)) (text : List ℕ) (number : ℕ) → HandsOut left left' text → HasNoneLeft left' → script_of text ≡ Err number → TellsScript left → ⊥
no_fault None left' text number hands none is tells = absurd tells
no_fault (Some bytes) None text number hands none is tells = absurd hands
no_fault (Some bytes) (Some rest) text number hands none is tells =
    absurd (cc (subst (λ (judged : Result (List Line) ℕ). IsOk judged) (ap script_of (all_read bytes rest text hands none) ∙ is) tells))

pub no_long : (left left' : Option (List ℕ)) → ReadsPast 65536 left left' → TellsScript left → ⊥
no_long None left' past tells = absurd tells
no_long (Some bytes) None past tells = absurd past.1
no_long (Some bytes) (Some rest) past tells = absurd (cc (subst (λ (judged : Result (List Line) ℕ). IsOk judged) (long_script bytes (long_left bytes rest past.0 past.1 past.2)) tells))

-- a run of a script without a fault ends well, or for want of memory
pub runs_well : (status : ℕ) (output bay : Type 0) → (status ≡ 0) ⊎ (status ≡ 4) ⊎ (status ≡ 5) ⊎ (status ≡ 6) → (status ≡ 4 → output) → (status ≡ 6 → bay) → (output → ⊥) → (bay → ⊥) → (status ≡ 0) ⊎ (status ≡ 5)
runs_well status output bay (inl well) four six out accept = inl well
runs_well status output bay (inr (inl is)) four six out accept = absurd (out (four is))
runs_well status output bay (inr (inr (inl is))) four six out accept = inr is
runs_well status output bay (inr (inr (inr is))) four six out accept = absurd (accept (six is))
