-- A client at rest shows the desktop.
use Rattle.std.proofs.Common.{◌≡◌, ℕ, zero, suc, Bool, true, false, Some, None, List, [], ◌∷◌, ◌++◌, drop, refl, sym, ap, ◌∙◌, subst}
use Rattle.std.specs.Prelude.{Option}
use Rattle.std.specs.Option.{option_map}
use Rattle.std.proofs.lemmas.List.{append-nil}
use Rattle.xp_base.specs.Counts.{Rose}
use Rattle.link_bay.specs.Connections.{ConnectionRecord}
use Rattle.window_model.specs.Desktop.{Window, IsDesktop}
use Rattle.packet_frames.specs.Stream.{Stream}
use Rattle.packet_frames.specs.Following.{Framing}
use Rattle.hello_caps.specs.declared.caps.Caps.{Caps}
use Rattle.packet_kinds.specs.Picture.{Picture}
use Rattle.packet_kinds.specs.Talk.{talk_of, talk}
use Rattle.packet_kinds.specs.Written.{Show}
use Rattle.client_outbox.specs.Outgoing.{unwritten, all_bytes}
use Rattle.window_source.specs.Source.{SourceSeen}
use Rattle.window_source.specs.Waiting.{Queued}
use Rattle.client_talk.specs.Talked.{server_limit, GoesOn}
use Rattle.client_talk.specs.Mapped.{Maps, MapsIn, IsMapped, client_limit}
use Rattle.client_talk.specs.Kept.{IsListening, IsMarked}
use Rattle.client_talk.specs.Laws.{MappedIsMarked}
use Rattle.client_delivery.specs.Attached.{AttachedSeen, find_source}
use Rattle.client_delivery.specs.Delivered.{layout}
use Rattle.client_delivery.specs.Keeping.{ToldLaysOut, WillShowTheDesktop}
use Rattle.client_delivery.specs.Owed.{owes, owes_in, shows, Differs, OwesWhatDiffers}
use Rattle.client_delivery.specs.Owing.{ToldOwesWhatDiffers}
use Rattle.connection_ends.specs.Causes.{TellsThat, ShowsExactly, IsSettled, HasSaidNothing}
use Rattle.attached_client.specs.Client.{ClientSeen}
use Rattle.open_connection.specs.Connection.{ConnectionSeen, caps_of}
use Rattle.open_connection.specs.Laws.{IsToldTo}
use Rattle.connection_steps.specs.Kept.{IsToldAs, AreMarked, IsConnection}
use Rattle.connection_steps.specs.Resting.{IsAtRest, ShowsItsMapped, RestShows, RestSettles, GreetingSaysNothing}
use Rattle.connection_steps.proofs.Bytes.{tells_given, tells_sent}

abbrev no_bytes : List ℕ
no_bytes = []

drop_nothing : (n : ℕ) → drop n no_bytes ≡ no_bytes
drop_nothing zero = refl
drop_nothing (suc n) = refl

-- the packets handled are all that were given
going_on : (given : List ℕ) (f : Framing) (caps : Option Caps) → IsListening given f caps → GoesOn caps (talk server_limit given)
unfolding talk
going_on given f caps was = subst (λ (s : Stream). GoesOn caps (talk_of s.fault s.packets)) (sym was.all) was.said

module _ (desk : List Window) (a : AttachedSeen) (sent : List ℕ) (rest : IsAtRest a) (will : WillShowTheDesktop desk a sent) (owing : OwesWhatDiffers desk a sent) where
  nothing_waits : unwritten a.out ≡ []
  nothing_waits = ap (λ (packets : List Queued). drop a.out.taken (all_bytes packets)) rest.written ∙ drop_nothing a.out.taken

  shown : Show client_limit sent will.0
  shown = subst (λ (bytes : List ℕ). Show client_limit bytes will.0) (ap (λ (more : List ℕ). sent ++ more) nothing_waits ∙ append-nil sent) will.1

  these : shows sent ≡ will.0
  these = ap (λ (p : Picture). p.windows) shown.shown

  pub all_sent : Show client_limit sent (shows sent)
  all_sent = subst (λ (windows : List Window). Show client_limit sent windows) (sym these) shown

  pub laid_out : layout (shows sent) ≡ layout desk
  laid_out = ap layout these ∙ will.2

  pub none_differs : (wid x y : ℕ) (s : SourceSeen) → find_source a.sources wid ≡ Some s → s.mapped ≡ true → Differs desk (shows sent) wid x y → ⊥
  none_differs wid x y s found mapped differs =
      let owed : owes a wid x y ≡ true = owing wid x y differs in
      absurd (cc (sym (rest.clear wid x y s found mapped) ∙ owed))

  -- a window without a source owes nothing, so no pixel of it differs
  pub none_differs_where : (wid x y : ℕ) → ((s : SourceSeen) → find_source a.sources wid ≡ Some s → s.mapped ≡ true) → Differs desk (shows sent) wid x y → ⊥
  none_differs_where wid x y mapped differs = go (find_source a.sources wid) refl
    where
      go : (o : Option SourceSeen) → find_source a.sources wid ≡ o → ⊥
      go None is = absurd (cc (sym (ap (λ (o : Option SourceSeen). owes_in o a.out.packets x y) is) ∙ owing wid x y differs))
      go (Some s) is = none_differs wid x y s is (mapped s is) differs

  pub shows_mapped : ShowsItsMapped desk a sent
  shows_mapped = record { clean = all_sent; laid = laid_out; same = none_differs }

module _ (lays : ToldLaysOut) (owing : ToldOwesWhatDiffers) (tells : Bool) (desk : List Window) (were_opened : ℕ → Bool) (k : ℕ) (r : ConnectionRecord) (c : ConnectionSeen) (client : ClientSeen)
    (desktop : IsDesktop desk) (is : c.client ≡ Some client) (rest : IsAtRest client.seen) (kept : IsConnection tells desk were_opened k r c) where
  told : IsToldTo desk were_opened k (Some client) kept.sent
  told = subst (λ (o : Option ClientSeen). IsToldTo desk were_opened k o kept.sent) is kept.client

  will : WillShowTheDesktop desk client.seen kept.sent
  will = lays desk were_opened client.seen kept.sent told.1

  owed : OwesWhatDiffers desk client.seen kept.sent
  owed = owing desk were_opened client.seen kept.sent desktop told.1

  shows_it : TellsThat r.sent (ShowsItsMapped desk client.seen)
  shows_it = tells_sent tells r kept.sent kept.given kept.heard (ShowsItsMapped desk client.seen) kept.told (shows_mapped desk client.seen kept.sent rest will owed)

  marks : AreMarked (Some client) kept.sent kept.given kept.heard
  marks = subst (λ (o : Option ClientSeen). AreMarked o kept.sent kept.given kept.heard) is kept.marks

  goes_on : GoesOn (Some client.caps) (talk server_limit kept.given)
  goes_on = subst (λ (o : Option ClientSeen). GoesOn (option_map caps_of o) (talk server_limit kept.given)) is (going_on kept.given c.framing (option_map caps_of c.client) kept.listens)

  exactly : MappedIsMarked → IsToldAs true r kept.sent kept.given kept.heard → ShowsExactly desk r kept.sent
  exactly marked telling = record {
    clean = all_sent desk client.seen kept.sent rest will owed;
    laid = laid_out desk client.seen kept.sent rest will owed;
    same = λ wid x y maps differs. none_differs_where desk client.seen kept.sent rest will owed wid x y
        (λ s found. marked wid s.mapped kept.sent kept.given kept.heard (marks wid s found) (mapped wid maps)) differs;
  }
    where
      mapped : (wid : ℕ) → IsMapped r wid → Maps wid kept.sent kept.given kept.heard
      mapped wid maps =
          subst (λ (o : Option (List ℕ)). MapsIn wid (Some kept.sent) (Some kept.given) o) telling.2
          (subst (λ (o : Option (List ℕ)). MapsIn wid (Some kept.sent) o r.heard) telling.1
          (subst (λ (o : Option (List ℕ)). MapsIn wid o r.given r.heard) telling.0 maps))

  exactly_told : MappedIsMarked → (b : Bool) → tells ≡ b → TellsThat r.sent (ShowsExactly desk r)
  exactly_told marked true told_true =
      let telling : IsToldAs true r kept.sent kept.given kept.heard = subst (λ (b : Bool). IsToldAs b r kept.sent kept.given kept.heard) told_true kept.told in
      subst (λ (o : Option (List ℕ)). TellsThat o (ShowsExactly desk r)) (sym telling.0) (exactly marked telling)
  exactly_told marked false told_false =
      let telling : IsToldAs false r kept.sent kept.given kept.heard = subst (λ (b : Bool). IsToldAs b r kept.sent kept.given kept.heard) told_false kept.told in
      subst (λ (o : Option (List ℕ)). TellsThat o (ShowsExactly desk r)) (sym telling.0) tt

  settled : MappedIsMarked → (was : ConnectionRecord) → Rose was.waits r.waits → r.unheard ≡ 0 → IsSettled desk was r
  settled marked was waited read_out = record {
    read_out = read_out;
    waited = waited;
    said = tells_given tells r kept.sent kept.given kept.heard (λ given. (caps : Caps) × GoesOn (Some caps) (talk server_limit given)) kept.told (client.caps, goes_on);
    shows = exactly_told marked tells refl;
  }

pub rest_shows : ToldLaysOut → ToldOwesWhatDiffers → RestShows
rest_shows lays owing tells desk were_opened k r c client desktop is rest kept = shows_it lays owing tells desk were_opened k r c client desktop is rest kept

pub rest_settles : ToldLaysOut → ToldOwesWhatDiffers → MappedIsMarked → RestSettles
rest_settles lays owing marked tells desk were_opened k was r c client desktop is waited read_out rest kept =
    settled lays owing tells desk were_opened k r c client desktop is rest kept marked was waited read_out

pub greeting_says_nothing : GreetingSaysNothing
greeting_says_nothing tells desk were_opened k r c none kept =
    let going : GoesOn None (talk server_limit kept.given) = subst (λ (o : Option ClientSeen). GoesOn (option_map caps_of o) (talk server_limit kept.given)) none (going_on kept.given c.framing (option_map caps_of c.client) kept.listens) in
    tells_given tells r kept.sent kept.given kept.heard HasSaidNothing kept.told going.0
