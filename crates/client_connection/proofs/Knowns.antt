-- Each step keeps what is known of a client and its connection: what it gave, and when, beside what was sent to it.
use Rattle.std.proofs.Common.{◌≡◌, ◌≢◌, ℕ, ◌≤◌, Bool, true, false, List, [], length, take, Option, Some, None, refl, ap, ◌∙◌, sym, subst}
use Rattle.std.specs.Prelude.{is_some, replicate}
use Rattle.std.proofs.lemmas.List.{append-nil}
use Rattle.xp_base.specs.Told.{told_append, told_length}
use Rattle.link_bay.specs.Connections.{ConnectionRecord, fresh_connection}
use Rattle.window_model.specs.Desktop.{Window}
use Rattle.first_script.specs.declared.paint.Paint.{Paint}
use Rattle.first_script.specs.Painting.{painted}
use Rattle.client_connection.specs.declared.answers.Sent.{Sent}
use Rattle.client_connection.specs.declared.answers.Sent.TheVariants as S
use Rattle.client_connection.specs.declared.answers.Captured.{Captured}
use Rattle.client_connection.specs.Clients.{ClientSeen, fresh_client, taken_more, painted_client}
use Rattle.client_connection.specs.Given.{IsGivenFor, IsHeardFor, IsKnown}
use Rattle.client_connection.specs.Hearing.{Hears}
use Rattle.client_connection.specs.Sending.{Writes, offered}
use Rattle.client_connection.specs.Capturing.{CapturesWindow}
use Rattle.client_connection.specs.Told.{IsToldFor}
use Rattle.first_script.specs.Validity.{ArePaints}
use Rattle.client_connection.specs.declared.source.Source.{Source}
use Rattle.client_connection.specs.Delivery.{find_source}
use Rattle.client_connection.specs.Mapped.{MapsIn}
use Rattle.client_connection.proofs.Talking.{maps_marked, script_geometry}
use Rattle.client_connection.proofs.Announced.{heard_fresh, heard_read, heard_wrote, heard_captured, heard_painted}
use Rattle.client_connection.proofs.Givens.{given_fresh, given_heard, given_wrote, given_captured, given_painted}

pub some_append : {A : Type 0} (o : Option (List A)) (more : List A) → is_some (told_append o more) ≡ is_some o
some_append None more = refl
some_append (Some items) more = refl

-- a connection that was just accepted
pub known_fresh : (tells : Bool) (lines : List Paint) (desk : List Window) → IsKnown tells lines desk fresh_client (fresh_connection tells)
known_fresh true lines desk = record {
  tells_all = record { sent = λ on. refl; given = λ on. refl; heard = λ on. refl };
  given = given_fresh lines;
  heard = heard_fresh lines desk;
}
known_fresh false lines desk = record {
  tells_all = record { sent = λ on. absurd (cc on); given = λ on. absurd (cc on); heard = λ on. absurd (cc on) };
  given = tt;
  heard = tt;
}

-- the same bytes were sent and given, at the same times
pub known_same : (tells : Bool) (lines : List Paint) (desk : List Window) (c : ClientSeen) (was now : ConnectionRecord) → now.sent ≡ was.sent → now.given ≡ was.given → now.heard ≡ was.heard
    → IsKnown tells lines desk c was → IsKnown tells lines desk c now
known_same tells lines desk c was now sent given heard known = record {
  tells_all = record {
    sent = λ on. ap is_some sent ∙ known.tells_all.sent on;
    given = λ on. ap is_some given ∙ known.tells_all.given on;
    heard = λ on. ap is_some heard ∙ known.tells_all.heard on;
  };
  given = subst (IsGivenFor lines c) (sym given) known.given;
  heard = subst (λ o. IsHeardFor lines desk c o now.given now.heard) (sym sent)
      (subst (λ o. IsHeardFor lines desk c was.sent o now.heard) (sym given)
      (subst (IsHeardFor lines desk c was.sent was.given) (sym heard) known.heard));
}

-- a write that took some
given_where : (lines : List Paint) (n : ℕ) (c : ClientSeen) (given : Option (List ℕ)) → IsGivenFor lines c given → IsGivenFor lines (taken_more n c) given
given_where lines n c None known = tt
given_where lines n c (Some given) known = given_wrote lines n c given known

heard_where : (lines : List Paint) (desk : List Window) (most n : ℕ) (c : ClientSeen) (sent given heard : Option (List ℕ)) → n ≤ length (offered most c) → c.packets ≢ [] → IsToldFor desk c sent
    → IsHeardFor lines desk c sent given heard
    → IsHeardFor lines desk (taken_more n c) (told_append sent (take n (offered most c))) given (told_append heard (replicate n (told_length given)))
heard_where lines desk most n c None given heard low some told known = tt
heard_where lines desk most n c (Some sent) None heard low some told known = tt
heard_where lines desk most n c (Some sent) (Some given) None low some told known = tt
heard_where lines desk most n c (Some sent) (Some given) (Some heard) low some told known = heard_wrote lines desk most n c sent given heard low some told known

took_known : (tells : Bool) (lines : List Paint) (desk : List Window) (most n : ℕ) (c : ClientSeen) (was now : ConnectionRecord) → n ≤ length (offered most c) → c.packets ≢ []
    → now.sent ≡ told_append was.sent (take n (offered most c)) → now.given ≡ was.given → now.heard ≡ told_append was.heard (replicate n (told_length was.given))
    → IsToldFor desk c was.sent → IsKnown tells lines desk c was → IsKnown tells lines desk (taken_more n c) now
took_known tells lines desk most n c was now low some sent given heard told known = record {
  tells_all = record {
    sent = λ on. ap is_some sent ∙ some_append was.sent (take n (offered most c)) ∙ known.tells_all.sent on;
    given = λ on. ap is_some given ∙ known.tells_all.given on;
    heard = λ on. ap is_some heard ∙ some_append was.heard (replicate n (told_length was.given)) ∙ known.tells_all.heard on;
  };
  given = subst (IsGivenFor lines (taken_more n c)) (sym given) (given_where lines n c was.given known.given);
  heard = subst (λ o. IsHeardFor lines desk (taken_more n c) o now.given now.heard) (sym sent)
      (subst (λ o. IsHeardFor lines desk (taken_more n c) (told_append was.sent (take n (offered most c))) o now.heard) (sym given)
      (subst (IsHeardFor lines desk (taken_more n c) (told_append was.sent (take n (offered most c))) was.given) (sym heard)
      (heard_where lines desk most n c was.sent was.given was.heard low some told known.heard)));
}

none_appended : {A : Type 0} (o : Option (List A)) → told_append o [] ≡ o
none_appended None = refl
none_appended (Some items) = ap (λ xs. Some xs) (append-nil items)

pub writes_known : (tells : Bool) (lines : List Paint) (desk : List Window) (most : ℕ) (was now : ConnectionRecord) (c c' : ClientSeen) (answer : Sent) → Writes most was now c answer c' → IsToldFor desk c was.sent
    → IsKnown tells lines desk c was → IsKnown tells lines desk c' now
writes_known tells lines desk most was now c c' S.Closed writes told known = absurd writes
writes_known tells lines desk most was now c c' S.Idle writes told known = subst (λ (d : ClientSeen). IsKnown tells lines desk d now) (sym writes.2) (subst (IsKnown tells lines desk c) (sym writes.1) known)
writes_known tells lines desk most was now c c' (S.Took n) writes told known =
    subst (λ (d : ClientSeen). IsKnown tells lines desk d now) (sym writes.3)
    (took_known tells lines desk most n c was now writes.2.0 writes.1 (ap (λ r. r.sent) writes.2.2) (ap (λ r. r.given) writes.2.2) (ap (λ r. r.heard) writes.2.2) told known)
writes_known tells lines desk most was now c c' S.Again writes told known =
    subst (λ (d : ClientSeen). IsKnown tells lines desk d now) (sym writes.3)
    (known_same tells lines desk c was now (ap (λ r. r.sent) writes.1.2 ∙ none_appended was.sent) (ap (λ r. r.given) writes.1.2) (ap (λ r. r.heard) writes.1.2 ∙ none_appended was.heard) known)
writes_known tells lines desk most was now c c' (S.Ended ended) writes told known = absurd writes
writes_known tells lines desk most was now c c' S.NoMemory writes told known =
    subst (λ (d : ClientSeen). IsKnown tells lines desk d now) (sym writes.2) (subst (IsKnown tells lines desk c) (sym writes.1) known)

-- a capture
captures_given : (lines : List Paint) (window : Window) (c c' : ClientSeen) (answer : Captured) (given : Option (List ℕ)) → CapturesWindow window c answer c' → IsGivenFor lines c given → IsGivenFor lines c' given
captures_given lines window c c' answer None captures known = tt
captures_given lines window c c' answer (Some given) captures known = given_captured lines window c c' answer given captures known

captures_heard : (lines : List Paint) (desk : List Window) (window : Window) (c c' : ClientSeen) (answer : Captured) (sent given heard : Option (List ℕ)) → CapturesWindow window c answer c'
    → IsHeardFor lines desk c sent given heard → IsHeardFor lines desk c' sent given heard
captures_heard lines desk window c c' answer None given heard captures known = tt
captures_heard lines desk window c c' answer (Some sent) None heard captures known = tt
captures_heard lines desk window c c' answer (Some sent) (Some given) None captures known = tt
captures_heard lines desk window c c' answer (Some sent) (Some given) (Some heard) captures known = heard_captured lines desk window c c' answer sent given heard captures known

pub captures_known : (tells : Bool) (lines : List Paint) (desk : List Window) (window : Window) (r : ConnectionRecord) (c c' : ClientSeen) (answer : Captured) → CapturesWindow window c answer c'
    → IsKnown tells lines desk c r → IsKnown tells lines desk c' r
captures_known tells lines desk window r c c' answer captures known = record {
  tells_all = known.tells_all;
  given = captures_given lines window c c' answer r.given captures known.given;
  heard = captures_heard lines desk window c c' answer r.sent r.given r.heard captures known.heard;
}

-- bytes of a form that is built were read
hears_given : (lines : List Paint) (desk : List Window) (bytes : List ℕ) (c c' : ClientSeen) (given : Option (List ℕ)) → Hears lines desk c bytes c' → IsGivenFor lines c given → IsGivenFor lines c' (told_append given bytes)
hears_given lines desk bytes c c' None hears known = tt
hears_given lines desk bytes c c' (Some given) hears known = given_heard lines desk c c' given bytes hears known

hears_heard : (lines : List Paint) (desk : List Window) (bytes : List ℕ) (c c' : ClientSeen) (sent given heard : Option (List ℕ)) → Hears lines desk c bytes c' → IsGivenFor lines c given → IsToldFor desk c sent
    → IsHeardFor lines desk c sent given heard → IsHeardFor lines desk c' sent (told_append given bytes) heard
hears_heard lines desk bytes c c' None given heard hears is told known = tt
hears_heard lines desk bytes c c' (Some sent) None heard hears is told known = tt
hears_heard lines desk bytes c c' (Some sent) (Some given) None hears is told known = tt
hears_heard lines desk bytes c c' (Some sent) (Some given) (Some heard) hears is told known = heard_read lines desk c c' sent given heard bytes hears is told known

pub hears_known : (tells : Bool) (lines : List Paint) (desk : List Window) (bytes : List ℕ) (was now : ConnectionRecord) (c c' : ClientSeen) → now ≡ record was { given = told_append was.given bytes } → Hears lines desk c bytes c'
    → IsToldFor desk c was.sent → IsKnown tells lines desk c was → IsKnown tells lines desk c' now
hears_known tells lines desk bytes was now c c' is hears told known = subst (IsKnown tells lines desk c') (sym is) (record {
  tells_all = record {
    sent = known.tells_all.sent;
    given = λ on. some_append was.given bytes ∙ known.tells_all.given on;
    heard = known.tells_all.heard;
  };
  given = hears_given lines desk bytes c c' was.given hears known.given;
  heard = hears_heard lines desk bytes c c' was.sent was.given was.heard hears known.given told known.heard;
})

-- a paint line was applied
painted_given : (lines : List Paint) (line : Paint) (c : ClientSeen) (given : Option (List ℕ)) → IsGivenFor lines c given → IsGivenFor lines (painted_client line c) given
painted_given lines line c None known = tt
painted_given lines line c (Some given) known = given_painted lines line c given known

painted_heard : (lines : List Paint) (desk : List Window) (line : Paint) (c : ClientSeen) (sent given heard : Option (List ℕ)) → IsHeardFor lines desk c sent given heard
    → IsHeardFor lines (painted desk line) (painted_client line c) sent given heard
painted_heard lines desk line c None given heard known = tt
painted_heard lines desk line c (Some sent) None heard known = tt
painted_heard lines desk line c (Some sent) (Some given) None known = tt
painted_heard lines desk line c (Some sent) (Some given) (Some heard) known = heard_painted lines desk line c sent given heard known

pub line_known : (tells : Bool) (lines : List Paint) (desk : List Window) (line : Paint) (c : ClientSeen) (r : ConnectionRecord) → IsKnown tells lines desk c r → IsKnown tells lines (painted desk line) (painted_client line c) r
line_known tells lines desk line c r known = record {
  tells_all = known.tells_all;
  given = painted_given lines line c r.given known.given;
  heard = painted_heard lines desk line c r.sent r.given r.heard known.heard;
}

-- a window that the client mapped has a mapped source
pub marked : (lines : List Paint) (desk : List Window) (c : ClientSeen) (wid : ℕ) (sent given heard : Option (List ℕ)) → ArePaints lines → IsGivenFor lines c given → IsHeardFor lines desk c sent given heard → MapsIn wid sent given heard
    → (s : Source) × (find_source c.sources wid ≡ Some s) × (s.mapped ≡ true)
marked lines desk c wid None given heard paints is known maps = absurd maps
marked lines desk c wid (Some sent) None heard paints is known maps = absurd maps
marked lines desk c wid (Some sent) (Some given) None paints is known maps = absurd maps
marked lines desk c wid (Some sent) (Some given) (Some heard) paints is known maps = maps_marked lines desk c sent given heard wid (λ g. script_geometry lines g paints) is known maps
