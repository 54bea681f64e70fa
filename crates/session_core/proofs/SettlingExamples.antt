-- The causes of ends, on connections whose client said nothing or its hello alone.
use Rattle.std.proofs.Common.{◌≡◌, ◌≢◌, inl, inr, ℕ, true, [], length, replicate, Some, refl, sym, ap, ◌∙◌, subst, arith}
use Rattle.std.proofs.lemmas.List.{append-nil, length-append}
use Rattle.packet_kinds.specs.Picture.{Picture}
use Rattle.packet_kinds.specs.Written.{Show}
use Rattle.link_bay.specs.Connections.{ConnectionRecord, fresh_connection}
use Rattle.client_connection.specs.Given.{HasHello}
use Rattle.client_connection.specs.Shown.{shows, Differs}
use Rattle.client_connection.specs.Told.{layout}
use Rattle.client_connection.specs.Wire.{client_limit, server_hello, exact_hello}
use Rattle.client_connection.proofs.MappedExamples.{hello_shows}
use Rattle.client_connection.proofs.Sources.{some_same}
use Rattle.session_core.specs.Causes.{BreaksOff, BreaksOffSince, IsSettled, IsUnbuiltFor, IsUnbuiltSince, ShowsExactly}

-- a connection that was just handed out has no cause of the end `Unbuilt`
no_cause_at_first : IsUnbuiltFor [] (fresh_connection true) → ⊥
no_cause_at_first (inl (inl faults)) = faults refl
no_cause_at_first (inl (inr (inl ends))) = ends refl
no_cause_at_first (inl (inr (inr (inl dry)))) = absurd (omega (arith, dry.0))
no_cause_at_first (inl (inr (inr (inr unbuilt)))) = unbuilt (exact_hello, refl)
no_cause_at_first (inr silent) = silent.0 refl

-- where a read of it had to wait it has one, as it said no hello; but not since that read
silent_has_one : IsUnbuiltFor [] (record (fresh_connection true) { waits = 1 }) × (IsUnbuiltSince [] (record (fresh_connection true) { waits = 1 }) (record (fresh_connection true) { waits = 1 }) → ⊥)
silent_has_one = (inr (waited, unheard), since)
  where
    waited : (record (fresh_connection true) { waits = 1 }).waits ≢ 0
    waited is = absurd (omega (arith, is))

    unheard : HasHello [] → ⊥
    unheard hello = let size = ap length hello.1 in let more = length-append exact_hello hello.0 in absurd (omega (arith, size, more))

    since : IsUnbuiltSince [] (record (fresh_connection true) { waits = 1 }) (record (fresh_connection true) { waits = 1 }) → ⊥
    since (inl (inl faults)) = absurd (omega (arith, faults.risen))
    since (inl (inr (inl ends))) = absurd (omega (arith, ends.risen))
    since (inl (inr (inr (inl dry)))) = absurd (omega (arith, dry.1))
    since (inl (inr (inr (inr unbuilt)))) = unbuilt (exact_hello, refl)
    since (inr silent) = absurd (omega (arith, silent.0.risen))

-- 999 writes in a row that took nothing are no cause, and 1,000 are one
dried_out : BreaksOff [] (record (fresh_connection true) { dry = 1000; drought = 1000 }) × (BreaksOff [] (record (fresh_connection true) { dry = 1000; drought = 999 }) → ⊥)
dried_out = (inr (inr (inl (omega arith, omega arith))), not_yet)
  where
    not_yet : BreaksOff [] (record (fresh_connection true) { dry = 1000; drought = 999 }) → ⊥
    not_yet (inl faults) = faults refl
    not_yet (inr (inl ends)) = ends refl
    not_yet (inr (inr (inl dry))) = absurd (omega (arith, dry.1))
    not_yet (inr (inr (inr unbuilt))) = unbuilt (exact_hello, refl)

-- after 999 writes that took nothing one more is a cause of the whole connection, but none since then
one_more_dry : BreaksOffSince [] (record (fresh_connection true) { dry = 999; drought = 999 }) (record (fresh_connection true) { dry = 1000; drought = 1000 }) → ⊥
one_more_dry (inl faults) = absurd (omega (arith, faults.risen))
one_more_dry (inr (inl ends)) = absurd (omega (arith, ends.risen))
one_more_dry (inr (inr (inl dry))) = absurd (omega (arith, dry.0.risen))
one_more_dry (inr (inr (inr unbuilt))) = unbuilt (exact_hello, refl)

-- a client that said its hello and was sent the server's, of a desktop without windows
abbrev settled_client : ConnectionRecord
settled_client = record (fresh_connection true) { sent = Some server_hello; given = Some exact_hello; heard = Some (replicate 83 (length exact_hello)); waits = 1 }

-- it shows no window
hello_windows : shows server_hello ≡ []
hello_windows = ap (λ (p : Picture). p.windows) hello_shows.shown

shows_nothing : ShowsExactly [] settled_client server_hello
shows_nothing = record {
  clean = subst (Show client_limit server_hello) (sym hello_windows) hello_shows;
  laid = ap layout hello_windows;
  same = λ wid x y maps differs. absurd (no_window wid x y differs);
}
  where
    no_window : (wid x y : ℕ) → Differs [] (shows server_hello) wid x y → ⊥
    no_window wid x y differs = absurd (cc differs.1)

-- it is settled; and with a byte unheard it is not
greeted_is_settled : IsSettled [] [] settled_client
greeted_is_settled = record {
  read_out = refl;
  waited = λ is. absurd (omega (arith, is));
  said = λ given gave. let same : exact_hello ≡ given = some_same exact_hello given gave in (([], sym (append-nil exact_hello ∙ same)), ([], append-nil given ∙ sym same));
  shows = λ sent at. subst (ShowsExactly [] settled_client) (some_same server_hello sent at) shows_nothing;
}

unread_is_unsettled : IsSettled [] [] (record settled_client { unheard = 1 }) → ⊥
unread_is_unsettled is = absurd (omega (arith, is.read_out))
