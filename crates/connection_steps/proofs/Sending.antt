-- A write on a connection.
use Rattle.std.proofs.Common.{◌≡◌, ℕ, ◌+◌, ◌-◌, ◌<◌, ◌≤◌, ◌⊎◌, inl, inr, Bool, true, false, Some, None, List, [], ◌++◌, length, take, refl, sym, ap, ◌∙◌, subst, arith}
use Rattle.std.specs.Prelude.{Option, replicate}
use Rattle.std.proofs.lemmas.Bool.{cases_lt}
use Rattle.std.proofs.lemmas.List.{append-nil, length-append, length-take, length-replicate, take-take, take-append-le}
use Rattle.std.proofs.Math.Seq.{take-append-add}
use Rattle.xp_base.specs.Told.{told_append, told_length}
use Rattle.link_bay.specs.Connections.{ConnectionRecord}
use Rattle.link_bay.specs.Answers.{WriteGives}
use Rattle.link_bay.specs.declared.bay.Wrote.TheVariants as W
use Rattle.window_model.specs.Desktop.{Window, IsDesktop, has_window}
use Rattle.window_source.specs.Source.{SourceSeen}
use Rattle.client_outbox.specs.Sending.{rest_of, piece_of}
use Rattle.client_outbox.specs.declared.out.Out.TheVariants as O
use Rattle.client_talk.specs.Laws.{MarkSends}
use Rattle.std.specs.Option.{option_map}
use Rattle.client_talk.specs.Kept.{IsListening, IsMarked}
use Rattle.client_delivery.specs.Attached.{find_source}
use Rattle.client_delivery.specs.Delivered.{IsTold}
use Rattle.client_delivery.specs.Attached.{AttachedSeen}
use Rattle.client_delivery.specs.Keeping.{WriteKeeps, ToldShowsOpened}
use Rattle.client_delivery.specs.Owed.{shows, OwesWhatDiffers}
use Rattle.client_delivery.specs.Owing.{ToldOwesWhatDiffers}
use Rattle.client_delivery.specs.Steps.{writes}
use Rattle.attached_client.specs.Client.{ClientSeen}
use Rattle.open_connection.specs.Connection.{ConnectionSeen, caps_of}
use Rattle.open_connection.specs.Laws.{IsToldTo}
use Rattle.connection_steps.specs.Kept.{IsToldAs, AreMarked, IsUnseen, IsConnection}
use Rattle.connection_steps.specs.Laws.{SameBytes, SendingKeeps, KeptOwesWhatDiffers}
use Rattle.connection_steps.proofs.Bytes.{waiting_keeps, tells_sent}

true_is_not_false : true ≡ false → ⊥
true_is_not_false same = cc same

nothing_more : {A : Type 0} (o : Option (List A)) → told_append o [] ≡ o
nothing_more None = refl
nothing_more (Some items) = ap Some (append-nil items)

-- the bytes sent, with those that were taken
sent_told : (tells : Bool) (r r' : ConnectionRecord) (sent given heard bytes : List ℕ) (n : ℕ) → r'.sent ≡ told_append r.sent bytes → r'.given ≡ r.given → r'.heard ≡ told_append r.heard (replicate n (told_length r.given))
    → IsToldAs tells r sent given heard → IsToldAs tells r' (sent ++ bytes) given (heard ++ replicate n (length given))
sent_told true r r' sent given heard bytes n now same later told = (
  now ∙ ap (λ o. told_append o bytes) told.0,
  same ∙ told.1,
  later ∙ ap (λ o. told_append r.heard (replicate n (told_length o))) told.1 ∙ ap (λ o. told_append o (replicate n (length given))) told.2,
)
sent_told false r r' sent given heard bytes n now same later told = (now ∙ ap (λ o. told_append o bytes) told.0, same ∙ told.1, later ∙ ap (λ o. told_append o (replicate n (told_length r.given))) told.2)

module _ (write_keeps : WriteKeeps) (sends_so : MarkSends) (opened_alone : ToldShowsOpened) where
  -- the client with its packets as they are now
  same_client : (c c' : ConnectionSeen) (client client' : ClientSeen) → c.client ≡ Some client → c' ≡ record c { client = Some client' } → client' ≡ client → c' ≡ c
  same_client c c' client client' before after same = after ∙ ap (λ (a : ClientSeen). record c { client = Some a }) same ∙ ap (λ (o : Option ClientSeen). record c { client = o }) (sym before)

  -- no byte more shows what was not opened: at each of them the client is told of the desktop
  still_unseen : (desk : List Window) (were_opened : ℕ → Bool) (n : ℕ) (a : AttachedSeen) (sent : List ℕ) → IsDesktop desk → n ≤ length (rest_of a.out.packets a.out.taken) → IsTold desk were_opened a sent
      → IsUnseen were_opened sent → IsUnseen were_opened (sent ++ take n (rest_of a.out.packets a.out.taken))
  still_unseen desk were_opened n a sent desktop within told unseen wid place unopened low shown = go (cases_lt place (length sent))
    where
      rest : List ℕ
      rest = rest_of a.out.packets a.out.taken

      go : ((place < length sent) ⊎ (length sent ≤ place)) → ⊥
      go (inl before) = unseen wid place unopened before (subst (λ (b : List ℕ). has_window (shows b) wid ≡ true) (take-append-le (place + 1) sent (take n rest) (omega (arith, before))) shown)
      go (inr behind) =
          let j : ℕ = place + 1 - length sent in
          let all = length-append sent (take n rest) in
          let some = length-take n rest in
          let few : j ≤ n = omega (arith, low, all, some, behind) in
          let front : take (place + 1) (sent ++ take n rest) ≡ sent ++ take j rest = ap (λ m. take m (sent ++ take n rest)) (let same : place + 1 ≡ length sent + j = omega (arith, behind) in same) ∙ take-append-add sent (take n rest) j ∙ ap (λ (b : List ℕ). sent ++ b) (take-take j n rest few) in
          let there = write_keeps desk were_opened j a sent (omega (arith, few, within)) desktop told in
          let none = opened_alone desk were_opened (writes j a) (sent ++ take j rest) wid there unopened in
          true_is_not_false (sym shown ∙ ap (λ (b : List ℕ). has_window (shows b) wid) front ∙ none)

  took : (tells : Bool) (desk : List Window) (were_opened : ℕ → Bool) (k max n : ℕ) (r r' : ConnectionRecord) (c : ConnectionSeen) (client : ClientSeen) → IsDesktop desk → c.client ≡ Some client
      → WriteGives r r' (piece_of max client.seen.out) (W.Took n) → IsConnection tells desk were_opened k r c
      → IsConnection tells desk were_opened k r' (record c { client = Some (record client { seen = writes n client.seen }) })
  took tells desk were_opened k max n r r' c client desktop before write kept = record {
    sent = kept.sent ++ bytes;
    given = kept.given;
    heard = kept.heard ++ replicate n (length kept.given);
    told = sent_told tells r r' kept.sent kept.given kept.heard bytes n (ap (λ (q : ConnectionRecord). q.sent) write.2) (ap (λ (q : ConnectionRecord). q.given) write.2) (ap (λ (q : ConnectionRecord). q.heard) write.2) kept.told;
    for_each = omega (arith, kept.for_each, length-append kept.heard (replicate n (length kept.given)), length-replicate n (length kept.given), length-append kept.sent bytes, many);
    listens = subst (λ (o : Option ClientSeen). IsListening kept.given c.framing (option_map caps_of o)) before kept.listens;
    client = (told.0, subst (λ (b : List ℕ). IsTold desk were_opened (writes n client.seen) (kept.sent ++ b)) (sym front) (write_keeps desk were_opened n client.seen kept.sent within desktop told.1));
    marks = λ wid s found. subst (λ m. IsMarked wid s.mapped (kept.sent ++ bytes) kept.given (kept.heard ++ replicate m (length kept.given))) many (sends_so wid s.mapped kept.sent kept.given kept.heard bytes kept.for_each (marks wid s found));
    unseen = subst (λ (b : List ℕ). IsUnseen were_opened (kept.sent ++ b)) (sym front) (still_unseen desk were_opened n client.seen kept.sent desktop within told.1 kept.unseen);
  }
    where
      piece : List ℕ
      piece = piece_of max client.seen.out

      bytes : List ℕ
      bytes = take n piece

      rest : List ℕ
      rest = rest_of client.seen.out.packets client.seen.out.taken

      many : length bytes ≡ n
      many = let size = length-take n piece in let low = write.0 in omega (arith, size, low)

      within : n ≤ length rest
      within = let size = length-take max rest in let low = write.0 in omega (arith, size, low)

      least : n ≤ max
      least = let size = length-take max rest in let low = write.0 in omega (arith, size, low)

      front : bytes ≡ take n rest
      front = take-take n max rest least

      told : IsToldTo desk were_opened k (Some client) kept.sent
      told = subst (λ (o : Option ClientSeen). IsToldTo desk were_opened k o kept.sent) before kept.client

      marks : (wid : ℕ) (s : SourceSeen) → find_source client.seen.sources wid ≡ Some s → IsMarked wid s.mapped kept.sent kept.given kept.heard
      marks = subst (λ (o : Option ClientSeen). AreMarked o kept.sent kept.given kept.heard) before kept.marks

  -- a write that took nothing
  waits : (tells : Bool) (desk : List Window) (were_opened : ℕ → Bool) (k : ℕ) (r r' : ConnectionRecord) (c c' : ConnectionSeen) → SameBytes r r' → c' ≡ c
      → IsConnection tells desk were_opened k r c → IsConnection tells desk were_opened k r' c'
  waits tells desk were_opened k r r' c c' same stays kept = subst (IsConnection tells desk were_opened k r') (sym stays) (waiting_keeps tells desk were_opened k r r' c same kept)

  none_taken : (r r' : ConnectionRecord) (piece : List ℕ) → WriteGives r r' piece (W.Took 0) → SameBytes r r'
  none_taken r r' piece write = record {
    sent = ap (λ (q : ConnectionRecord). q.sent) write.2 ∙ nothing_more r.sent;
    given = ap (λ (q : ConnectionRecord). q.given) write.2;
    heard = ap (λ (q : ConnectionRecord). q.heard) write.2 ∙ nothing_more r.heard;
  }

  pub sending_keeps : SendingKeeps
  sending_keeps tells desk were_opened k max r r' c c' client client' (O.Took n) desktop before after sends kept =
      let write = sends.sends.2 in
      let out = sends.sends.3 in
      let now : client' ≡ record client { seen = writes n client.seen } = sends.stays ∙ ap (λ o. record client { seen = record client.seen { out = o } }) out in
      subst (IsConnection tells desk were_opened k r') (sym (after ∙ ap (λ (a : ClientSeen). record c { client = Some a }) now)) (took tells desk were_opened k max n r r' c client desktop before write kept)
  sending_keeps tells desk were_opened k max r r' c c' client client' O.Idle desktop before after sends kept =
      waits tells desk were_opened k r r' c c' (record { sent = ap (λ (q : ConnectionRecord). q.sent) sends.sends.1; given = ap (λ (q : ConnectionRecord). q.given) sends.sends.1; heard = ap (λ (q : ConnectionRecord). q.heard) sends.sends.1 })
      (same_client c c' client client' before after (sends.stays ∙ ap (λ o. record client { seen = record client.seen { out = o } }) sends.sends.2)) kept
  sending_keeps tells desk were_opened k max r r' c c' client client' O.Again desktop before after sends kept =
      waits tells desk were_opened k r r' c c' (none_taken r r' (piece_of max client.seen.out) sends.sends.1)
      (same_client c c' client client' before after (sends.stays ∙ ap (λ o. record client { seen = record client.seen { out = o } }) sends.sends.2)) kept
  sending_keeps tells desk were_opened k max r r' c c' client client' O.Failed desktop before after sends kept =
      waits tells desk were_opened k r r' c c' (record { sent = ap (λ (q : ConnectionRecord). q.sent) sends.sends.1.1; given = ap (λ (q : ConnectionRecord). q.given) sends.sends.1.1; heard = ap (λ (q : ConnectionRecord). q.heard) sends.sends.1.1 })
      (same_client c c' client client' before after (sends.stays ∙ ap (λ o. record client { seen = record client.seen { out = o } }) sends.sends.2)) kept
  sending_keeps tells desk were_opened k max r r' c c' client client' O.NoMemory desktop before after sends kept =
      waits tells desk were_opened k r r' c c' (record { sent = ap (λ (q : ConnectionRecord). q.sent) sends.sends.1; given = ap (λ (q : ConnectionRecord). q.given) sends.sends.1; heard = ap (λ (q : ConnectionRecord). q.heard) sends.sends.1 })
      (same_client c c' client client' before after (sends.stays ∙ ap (λ o. record client { seen = record client.seen { out = o } }) sends.sends.2)) kept

pub owes_what_differs : ToldOwesWhatDiffers → KeptOwesWhatDiffers
owes_what_differs owes tells desk were_opened k r c client desktop before kept =
    let told : IsToldTo desk were_opened k (Some client) kept.sent = subst (λ (o : Option ClientSeen). IsToldTo desk were_opened k o kept.sent) before kept.client in
    tells_sent tells r kept.sent kept.given kept.heard (OwesWhatDiffers desk client.seen) kept.told (owes desk were_opened client.seen kept.sent desktop told.1)
