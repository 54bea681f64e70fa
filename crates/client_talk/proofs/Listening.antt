-- What is kept of a client's talk, and how a read goes on from there.
use Rattle.std.proofs.Common.{◌≡◌, ◌≢◌, ℕ, ◌+◌, Bool, true, false, ◌||◌, Option, Some, None, List, [], ◌∷◌, ◌++◌, refl, sym, ap, subst, ◌∙◌}
use Rattle.std.specs.Prelude.{Result, Ok, Err}
use Rattle.std.specs.Option.{option_map}
use Rattle.std.specs.List.{list_any}
use Rattle.std.proofs.lemmas.List.Folds.{list_any-append}
use Rattle.packet_frames.specs.Stream.{Packet, Fault, Stream, from_place, read_on, packets_of}
use Rattle.packet_frames.specs.Following.{Framing, left_of, behind, fed}
use Rattle.hello_caps.specs.Capabilities.{hello_of}
use Rattle.hello_caps.specs.declared.caps.Caps.{Caps}
use Rattle.hello_caps.specs.declared.caps.HelloFault.{HelloFault}
use Rattle.packet_kinds.specs.Talk.{Said, Talk, Heard, heard, talk_of, talk, LaterAreHeard}
use Rattle.packet_kinds.specs.declared.fault.TalkFault.TheVariants as F
use Rattle.client_talk.specs.declared.ending.Ending.{Ending}
use Rattle.client_talk.specs.declared.ending.Ending.TheVariants as E
use Rattle.client_talk.specs.Talked.{server_limit, hello_in, HasGreeted, says_leaving, is_leaving, GoesOn, HasEnding}
use Rattle.client_talk.specs.Handling.{Acts, Outcome, after_hello, handled}
use Rattle.client_talk.specs.Marks.{marked}
use Rattle.client_talk.specs.Kept.{IsListening, Hears, EndsHearing}
use Rattle.client_talk.specs.Laws.{HasCaps, Marks, MarkBefore, GoesOnListening, EndsForItsCause, MarksFollow}
use Rattle.client_talk.proofs.Handled.{Agrees, agrees, keeps_caps, marks}

leaving_append : (xs ys : List Said) → says_leaving (xs ++ ys) ≡ (says_leaving xs || says_leaving ys)
leaving_append = list_any-append (λ (s : Said). is_leaving s.message)

or_true : (a b : Bool) → b ≡ true → (a || b) ≡ true
or_true true b is = refl
or_true false b is = is

-- a client that was greeted has a first packet
has_first : (t : Talk) (caps : Caps) → HasGreeted t caps → t.first ≢ None
has_first t caps greeted none = absurd (let e = sym (ap hello_in none) ∙ greeted in cc e)

-- behind an accepted hello
abbrev then_said : Talk → Heard → Talk
then_said t h = record t { said = t.said ++ h.said; fault = h.fault }

module _ {A : Type 0} (acts : Acts A) (caps_of : A → Caps) (has : HasCaps acts caps_of) (later : LaterAreHeard) where
  -- the talk of an attached client with these packets more
  attached_talk : (packets : List Packet) (a : A) (ps : List Packet) (fault : Option Fault) → GoesOn (Some (caps_of a)) (talk_of None packets)
      → talk_of fault (packets ++ ps) ≡ then_said (talk_of None packets) (heard fault ps)
  attached_talk packets a ps fault goes = later fault packets ps (has_first (talk_of None packets) (caps_of a) goes.0) goes.1

  attached_goes : (t : Talk) (a : A) (h : Heard) (b : A) → GoesOn (Some (caps_of a)) t → Agrees None h → caps_of b ≡ caps_of a → GoesOn (Some (caps_of b)) (then_said t h)
  attached_goes t a h b goes agree same = (
    goes.0 ∙ ap (λ (caps : Caps). let r : Result Caps HelloFault = Ok caps in Some r) (sym same),
    agree.0,
    leaving_append t.said h.said ∙ ap (λ c. c || says_leaving h.said) goes.2 ∙ agree.1,
  )

  attached_ends : (t : Talk) (a : A) (h : Heard) (e : Ending) → GoesOn (Some (caps_of a)) t → Agrees (Some e) h → HasEnding e (then_said t h)
  attached_ends t a h E.Left goes agree = ((caps_of a, goes.0), leaving_append t.said h.said ∙ or_true (says_leaving t.said) (says_leaving h.said) agree)
  attached_ends t a h (E.Refused fault) goes agree = absurd agree
  attached_ends t a h (E.Broken place kind) goes agree = agree

  agrees_when : (a : A) (n : ℕ) (ps : List Packet) (fault : Option Fault) (e : Option Ending) → (handled acts (Some a) n ps fault).ended ≡ e → Agrees e (heard fault ps)
  agrees_when a n ps fault e is = subst (λ (o : Option Ending). Agrees o (heard fault ps)) is (agrees acts a n ps fault)

  -- the talk of an accepted hello alone
  greeted_talk : (p : Packet) (caps : Caps) → hello_of p.value ≡ Ok caps → GoesOn (Some (caps_of (acts.attach caps))) (talk_of None (p ∷ []))
  greeted_talk p caps is = (ap (λ (r : Result Caps HelloFault). Some r) (is ∙ ap (λ (c : Caps). let r : Result Caps HelloFault = Ok c in r) (sym (has.attach caps))), refl, refl)

  some_goes : (packets : List Packet) (a : A) (n : ℕ) (ps : List Packet) (fault : Option Fault) → GoesOn (Some (caps_of a)) (talk_of None packets) → (handled acts (Some a) n ps fault).ended ≡ None
      → GoesOn (option_map caps_of (handled acts (Some a) n ps fault).attached) (talk_of fault (packets ++ ps))
  some_goes packets a n ps fault goes on =
      let kept = keeps_caps acts caps_of has a n ps fault on in
      subst (λ (o : Option A). GoesOn (option_map caps_of o) (talk_of fault (packets ++ ps))) (sym kept.1)
      (subst (GoesOn (Some (caps_of kept.0))) (sym (attached_talk packets a ps fault goes))
      (attached_goes (talk_of None packets) a (heard fault ps) kept.0 goes (agrees_when a n ps fault None on) kept.2))

  some_ends : (packets : List Packet) (a : A) (n : ℕ) (ps : List Packet) (fault : Option Fault) (e : Ending) → GoesOn (Some (caps_of a)) (talk_of None packets) → (handled acts (Some a) n ps fault).ended ≡ Some e
      → HasEnding e (talk_of fault (packets ++ ps))
  some_ends packets a n ps fault e goes on =
      subst (HasEnding e) (sym (attached_talk packets a ps fault goes)) (attached_ends (talk_of None packets) a (heard fault ps) e goes (agrees_when a n ps fault (Some e) on))

  -- before its hello a client has given no packet
  pub none_goes : (n : ℕ) (ps : List Packet) (fault : Option Fault) → (handled acts None n ps fault).ended ≡ None → GoesOn (option_map caps_of (handled acts None n ps fault).attached) (talk_of fault ps)
  unfolding handled
  none_goes n [] None on = (refl, refl)
  none_goes n [] (Some f) on = absurd (cc on)
  none_goes n (p ∷ ps) fault on = greets (hello_of p.value) refl on
    where
      greets : (r : Result Caps HelloFault) → hello_of p.value ≡ r → (after_hello acts n r (λ s k. handled acts s k ps fault)).ended ≡ None
          → GoesOn (option_map caps_of (after_hello acts n r (λ s k. handled acts s k ps fault)).attached) (talk_of fault (p ∷ ps))
      greets (Err f) is on = absurd (cc on)
      greets (Ok caps) is on = some_goes (p ∷ []) (acts.attach caps) n ps fault (greeted_talk p caps is) on

  pub none_ends : (n : ℕ) (ps : List Packet) (fault : Option Fault) (e : Ending) → (handled acts None n ps fault).ended ≡ Some e → HasEnding e (talk_of fault ps)
  unfolding handled
  none_ends n [] None e on = absurd (cc on)
  none_ends n [] (Some f) e on = subst (λ (g : Ending). HasEnding g (talk_of (Some f) [])) {x = E.Broken f.place (F.Frame f.kind)} (cc on) refl
  none_ends n (p ∷ ps) fault e on = greets (hello_of p.value) refl on
    where
      greets : (r : Result Caps HelloFault) → hello_of p.value ≡ r → (after_hello acts n r (λ s k. handled acts s k ps fault)).ended ≡ Some e → HasEnding e (talk_of fault (p ∷ ps))
      greets (Err f) is on = subst (λ (g : Ending). HasEnding g (talk_of fault (p ∷ ps))) {x = E.Refused f} (cc on) (ap (λ (r : Result Caps HelloFault). Some r) is)
      greets (Ok caps) is on = some_ends (p ∷ []) (acts.attach caps) n ps fault e (greeted_talk p caps is) on

  pub nothing_said : (packets : List Packet) → GoesOn None (talk_of None packets) → packets ≡ []
  nothing_said [] goes = refl
  nothing_said (p ∷ packets) goes = absurd (let e = goes.0 in cc e)

  pub goes_on : (packets : List Packet) (attached : Option A) (n : ℕ) (ps : List Packet) (fault : Option Fault) → GoesOn (option_map caps_of attached) (talk_of None packets) → (handled acts attached n ps fault).ended ≡ None
      → GoesOn (option_map caps_of (handled acts attached n ps fault).attached) (talk_of fault (packets ++ ps))
  goes_on packets None n ps fault goes on =
      subst (λ (qs : List Packet). GoesOn (option_map caps_of (handled acts None n ps fault).attached) (talk_of fault (qs ++ ps))) (sym (nothing_said packets goes)) (none_goes n ps fault on)
  goes_on packets (Some a) n ps fault goes on = some_goes packets a n ps fault goes on

  pub ends_so : (packets : List Packet) (attached : Option A) (n : ℕ) (ps : List Packet) (fault : Option Fault) (e : Ending) → GoesOn (option_map caps_of attached) (talk_of None packets)
      → (handled acts attached n ps fault).ended ≡ Some e → HasEnding e (talk_of fault (packets ++ ps))
  ends_so packets None n ps fault e goes on = subst (λ (qs : List Packet). HasEnding e (talk_of fault (qs ++ ps))) (sym (nothing_said packets goes)) (none_ends n ps fault e on)
  ends_so packets (Some a) n ps fault e goes on = some_ends packets a n ps fault e goes on

  -- what is said more, and what becomes of a mark
  abbrev pub SaysMore : ℕ → (A → Option Bool) → Bool → A → Talk → Talk → Type 0
  SaysMore wid mark_of was a old new = (more : List Said) × (new.said ≡ old.said ++ more) × (mark_of a ≡ Some (marked wid was more))

  some_says : (wid : ℕ) (mark_of : A → Option Bool) (was : Bool) → Marks acts wid mark_of → (packets : List Packet) (a : A) (n : ℕ) (ps : List Packet) (fault : Option Fault) (b : A)
      → mark_of a ≡ Some was → GoesOn (Some (caps_of a)) (talk_of None packets) → (handled acts (Some a) n ps fault).ended ≡ None → (handled acts (Some a) n ps fault).attached ≡ Some b
      → SaysMore wid mark_of was b (talk_of None packets) (talk_of fault (packets ++ ps))
  some_says wid mark_of was marking packets a n ps fault b before goes on is = (
    (heard fault ps).said,
    ap (λ (t : Talk). t.said) (attached_talk packets a ps fault goes),
    marks acts wid mark_of marking a was before n ps fault on b is,
  )

  none_says : (wid : ℕ) (mark_of : A → Option Bool) (was : Bool) → Marks acts wid mark_of → (n : ℕ) (ps : List Packet) (fault : Option Fault) (b : A)
      → MarkBefore acts mark_of None was → (handled acts None n ps fault).ended ≡ None → (handled acts None n ps fault).attached ≡ Some b
      → SaysMore wid mark_of was b (talk_of None []) (talk_of fault ps)
  unfolding handled
  none_says wid mark_of was marking n [] None b before on is = absurd (cc is)
  none_says wid mark_of was marking n [] (Some f) b before on is = absurd (cc is)
  none_says wid mark_of was marking n (p ∷ ps) fault b before on is = greets (hello_of p.value) refl on is
    where
      greets : (r : Result Caps HelloFault) → hello_of p.value ≡ r → (after_hello acts n r (λ s k. handled acts s k ps fault)).ended ≡ None
          → (after_hello acts n r (λ s k. handled acts s k ps fault)).attached ≡ Some b → SaysMore wid mark_of was b (talk_of None []) (talk_of fault (p ∷ ps))
      greets (Err f) here on is = absurd (cc on)
      greets (Ok caps) here on is = some_says wid mark_of was marking (p ∷ []) (acts.attach caps) n ps fault b (before caps) (greeted_talk p caps here) on is

  pub says_more : (wid : ℕ) (mark_of : A → Option Bool) (was : Bool) → Marks acts wid mark_of → (packets : List Packet) (attached : Option A) (n : ℕ) (ps : List Packet) (fault : Option Fault) (b : A)
      → MarkBefore acts mark_of attached was → GoesOn (option_map caps_of attached) (talk_of None packets) → (handled acts attached n ps fault).ended ≡ None → (handled acts attached n ps fault).attached ≡ Some b
      → SaysMore wid mark_of was b (talk_of None packets) (talk_of fault (packets ++ ps))
  says_more wid mark_of was marking packets None n ps fault b before goes on is =
      subst (λ (qs : List Packet). SaysMore wid mark_of was b (talk_of None qs) (talk_of fault (qs ++ ps))) (sym (nothing_said packets goes)) (none_says wid mark_of was marking n ps fault b before on is)
  says_more wid mark_of was marking packets (Some a) n ps fault b before goes on is = some_says wid mark_of was marking packets a n ps fault b before goes on is
