use Rattle.std.proofs.Common.{◌≡◌, ℕ, ◌+◌, ◌<◌, ◌≤◌, ◌++◌, List, take, length, refl, sym, ◌∙◌, ap, subst, arith}
use Rattle.rgb_encoders.specs.Encoding.{Encoding}
use Rattle.rect_regions.specs.BitRows.{AllWithin}
use Rattle.delivery_model.specs.Window.{Sent}
use Rattle.delivery_model.specs.Events.{filing_of, capture_of, Filed}
use Rattle.client_outbox.specs.Outgoing.{Outgoing}
use Rattle.draw_sequencer.specs.InHand.{HeldJob}
use Rattle.draw_sequencer.specs.Filing.{with_encoding, IsInHand}
use Rattle.resize_cancel.specs.Delivery.{jobs_seen}
use Rattle.window_source.specs.Source.{SourceSeen, seen}
use Rattle.window_source.specs.Kept.{IsSource}
use Rattle.window_source.specs.Drawn.{Files, is_to}
use Rattle.window_source.specs.Drafts.{ready_jobs, staying_jobs, sent_from, Drafted}
use Rattle.window_source.proofs.SourceLemmas.{length_seen}
use Rattle.window_source.proofs.StandingsLemmas.{own_is}
use Rattle.window_source.proofs.DraftsLemmas.{drafts_count}
use Rattle.window_source.proofs.FiledLemmas.{own_in_hand, most_ready, all_filed, take_readies, kept_filed, lossy_filed, files_so}
use Rattle.window_source.proofs.source.WindowSource.file.Goals as goal

pub prepared-requires-clause-own : goal.prepared-requires-clause-own
prepared-requires-clause-own g c =
    let filing : is_to c.args.done c.args.self.now ≡ Filed = own_is (is_to c.args.done c.args.self.now) (sym c.standing.ensures ∙ c.in-Own.is) in
    let here : filing_of (capture_of (jobs_seen g.R.Points.has c.self.inside.w c.self.inside.h c.self.inside.jobs.jobs) c.args.done.job.number) c.args.done.job.capture ≡ Filed =
    subst (λ (s : SourceSeen). is_to c.args.done s ≡ Filed) (sym c.self.view_is) filing in
    own_in_hand g.R.Points.has c.self.inside.w c.self.inside.h c.self.inside.jobs.jobs c.args.done here c.encoded-encoding.ensures.kept.own

pub keep-requires : goal.keep-requires
keep-requires g c =
    let filing : is_to c.args.done c.args.self.now ≡ Filed = own_is (is_to c.args.done c.args.self.now) (sym c.standing.ensures ∙ c.in-Own.is) in
    let here : filing_of (capture_of (jobs_seen g.R.Points.has c.self.inside.w c.self.inside.h c.self.inside.jobs.jobs) c.args.done.job.number) c.args.done.job.capture ≡ Filed =
    subst (λ (s : SourceSeen). is_to c.args.done s ≡ Filed) (sym c.self.view_is) filing in
    record { own = own_in_hand g.R.Points.has c.self.inside.w c.self.inside.h c.self.inside.jobs.jobs c.args.done here c.encoded-encoding.ensures.kept.own }

pub overflow_cast-count : goal.overflow_cast-count
overflow_cast-count g c =
    let has = g.R.Points.has in
    let jobs : List (HeldJob g.row.R.Denot) = c.self.inside.jobs.jobs in
    let number = c.args.done.job.number in
    let e : Encoding = c.args.done.encoding in
    let filed : List (HeldJob g.row.R.Denot) = with_encoding jobs number e in
    let drafted : Drafted has c.self.inside.wid c.args.now c.self.inside.next_sequence filed c.self.inside.lossy c.in-Ok.made.packets.items c.in-Ok.made.lossy = c.in-Ok.ensures in
    let drawn : length c.in-Ok.made.packets.items ≡ length (ready_jobs filed) = drafts_count has c.self.inside.wid c.args.now c.self.inside.next_sequence (ready_jobs filed) drafted.start c.in-Ok.made.packets.items c.in-Ok.made.lossy drafted.drafts in
    let count : c.len-count.result ≡ length (ready_jobs filed) = omega (arith, c.len-count.ensures, c.in-Ok.made.packets.ok.0, drawn) in
    let most : length (ready_jobs filed) ≤ length jobs = most_ready has jobs number e in
    omega (arith, count, most, c.self.invariant.few)

pub note_sent-requires-clause-some : goal.note_sent-requires-clause-some
note_sent-requires-clause-some g c =
    let has = g.R.Points.has in
    let jobs : List (HeldJob g.row.R.Denot) = c.self.inside.jobs.jobs in
    let number = c.args.done.job.number in
    let e : Encoding = c.args.done.encoding in
    let filed : List (HeldJob g.row.R.Denot) = with_encoding jobs number e in
    let drafted : Drafted has c.self.inside.wid c.args.now c.self.inside.next_sequence filed c.self.inside.lossy c.in-Ok.made.packets.items c.in-Ok.made.lossy = c.in-Ok.ensures in
    let drawn : length c.in-Ok.made.packets.items ≡ length (ready_jobs filed) = drafts_count has c.self.inside.wid c.args.now c.self.inside.next_sequence (ready_jobs filed) drafted.start c.in-Ok.made.packets.items c.in-Ok.made.lossy drafted.drafts in
    let count : c.len-count.result ≡ length (ready_jobs filed) = omega (arith, c.len-count.ensures, c.in-Ok.made.packets.ok.0, drawn) in
    let most : length (ready_jobs filed) ≤ length jobs = most_ready has jobs number e in
    let kept : length c.keep.new.jobs.jobs ≡ length filed = ap (λ (js : List (HeldJob g.row.R.Denot)). length js) c.keep.ensures in
    omega (arith, count, most, kept, all_filed has jobs number e)

pub note_sent-requires-clause-few : goal.note_sent-requires-clause-few
note_sent-requires-clause-few g c =
    let has = g.R.Points.has in
    let jobs : List (HeldJob g.row.R.Denot) = c.self.inside.jobs.jobs in
    let number = c.args.done.job.number in
    let e : Encoding = c.args.done.encoding in
    let filed : List (HeldJob g.row.R.Denot) = with_encoding jobs number e in
    let drafted : Drafted has c.self.inside.wid c.args.now c.self.inside.next_sequence filed c.self.inside.lossy c.in-Ok.made.packets.items c.in-Ok.made.lossy = c.in-Ok.ensures in
    let drawn : length c.in-Ok.made.packets.items ≡ length (ready_jobs filed) = drafts_count has c.self.inside.wid c.args.now c.self.inside.next_sequence (ready_jobs filed) drafted.start c.in-Ok.made.packets.items c.in-Ok.made.lossy drafted.drafts in
    let count : c.len-count.result ≡ length (ready_jobs filed) = omega (arith, c.len-count.ensures, c.in-Ok.made.packets.ok.0, drawn) in
    let most : length (ready_jobs filed) ≤ length jobs = most_ready has jobs number e in
    let same : length c.reserve.new.acks.draws ≡ length c.self.inside.acks.draws = ap (λ (l : List Sent). length l) c.reserve.ensures.draws in
    omega (arith, count, most, same, c.self.invariant.few)

pub note_sent-requires-clause-numbers : goal.note_sent-requires-clause-numbers
note_sent-requires-clause-numbers g c =
    let has = g.R.Points.has in
    let jobs : List (HeldJob g.row.R.Denot) = c.self.inside.jobs.jobs in
    let number = c.args.done.job.number in
    let e : Encoding = c.args.done.encoding in
    let filed : List (HeldJob g.row.R.Denot) = with_encoding jobs number e in
    let drafted : Drafted has c.self.inside.wid c.args.now c.self.inside.next_sequence filed c.self.inside.lossy c.in-Ok.made.packets.items c.in-Ok.made.lossy = c.in-Ok.ensures in
    let drawn : length c.in-Ok.made.packets.items ≡ length (ready_jobs filed) = drafts_count has c.self.inside.wid c.args.now c.self.inside.next_sequence (ready_jobs filed) drafted.start c.in-Ok.made.packets.items c.in-Ok.made.lossy drafted.drafts in
    let count : c.len-count.result ≡ length (ready_jobs filed) = omega (arith, c.len-count.ensures, c.in-Ok.made.packets.ok.0, drawn) in
    let most : length (ready_jobs filed) ≤ length jobs = most_ready has jobs number e in
    let next : c.self.inside.next_sequence ≡ c.args.self.now.next_sequence = ap (λ (s : SourceSeen). s.next_sequence) c.self.view_is in
    let all : length c.args.self.now.jobs ≡ length jobs = sym (ap (λ (s : SourceSeen). length s.jobs) c.self.view_is) ∙ length_seen has c.self.inside.w c.self.inside.h jobs in
    omega (arith, count, most, next, all, c.requires.numbers)

pub invariant_of-self-2 : goal.invariant_of-self-2
invariant_of-self-2 g c =
    let has = g.R.Points.has in
    let jobs : List (HeldJob g.row.R.Denot) = c.self.inside.jobs.jobs in
    let number = c.args.done.job.number in
    let e : Encoding = c.args.done.encoding in
    let filed : List (HeldJob g.row.R.Denot) = with_encoding jobs number e in
    let drafted : Drafted has c.self.inside.wid c.args.now c.self.inside.next_sequence filed c.self.inside.lossy c.in-Ok.made.packets.items c.in-Ok.made.lossy = c.in-Ok.ensures in
    let drawn : length c.in-Ok.made.packets.items ≡ length (ready_jobs filed) = drafts_count has c.self.inside.wid c.args.now c.self.inside.next_sequence (ready_jobs filed) drafted.start c.in-Ok.made.packets.items c.in-Ok.made.lossy drafted.drafts in
    let count : c.len-count.result ≡ length (ready_jobs filed) = omega (arith, c.len-count.ensures, c.in-Ok.made.packets.ok.0, drawn) in
    let most : length (ready_jobs filed) ≤ length jobs = most_ready has jobs number e in
    let next = c.self.inside.next_sequence in
    let kept_jobs : c.keep.new.jobs.jobs ≡ filed = c.keep.ensures in
    let stay : c.leave.new.jobs.jobs ≡ staying_jobs filed = c.leave.ensures ∙ ap (λ (js : List (HeldJob g.row.R.Denot)). staying_jobs js) kept_jobs in
    let sent : c.note_sent.new.acks.draws ≡ c.self.inside.acks.draws ++ sent_from next (ready_jobs filed) =
    c.note_sent.ensures ∙ ap (λ (l : List Sent). l ++ sent_from next (take c.len-count.result c.keep.new.jobs.jobs)) c.reserve.ensures.draws
    ∙ ap (λ (js : List (HeldJob g.row.R.Denot)). c.self.inside.acks.draws ++ sent_from next (take c.len-count.result js)) kept_jobs
    ∙ ap (λ n. c.self.inside.acks.draws ++ sent_from next (take n filed)) count
    ∙ ap (λ (js : List (HeldJob g.row.R.Denot)). c.self.inside.acks.draws ++ sent_from next js) (take_readies has filed) in
    let within : AllWithin c.self.inside.w c.self.inside.h (has c.in-Ok.made.lossy.points) = lossy_filed has c.points_are_their_tests.ensures.alike c.draws_are_the_models.ensures.lossy c.draws_are_the_models.ensures.relief c.self.inside.conn.0 c.self.inside.wid c.self.inside.w c.self.inside.h c.self.inside.mapped jobs
    c.self.inside.batch c.self.inside.lossy c.in-Ok.made.lossy c.self.inside.acks.draws next c.args.now number e c.args.done.job.capture c.in-Ok.made.packets.items c.self.invariant drafted in
    let kept : IsSource has c.self.inside.w c.self.inside.h (staying_jobs filed) c.self.inside.batch.pending c.in-Ok.made.lossy.points (c.self.inside.acks.draws ++ sent_from next (ready_jobs filed)) (next + length (ready_jobs filed)) =
    kept_filed has c.self.inside.w c.self.inside.h jobs c.self.inside.batch.pending c.self.inside.lossy.points c.in-Ok.made.lossy.points c.self.inside.acks.draws next number e c.self.invariant within in
    subst (λ (js : List (HeldJob g.row.R.Denot)). IsSource has c.self.inside.w c.self.inside.h js c.self.inside.batch.pending c.in-Ok.made.lossy.points c.note_sent.new.acks.draws (next + c.len-count.result)) (sym stay)
    (subst (λ (l : List Sent). IsSource has c.self.inside.w c.self.inside.h (staying_jobs filed) c.self.inside.batch.pending c.in-Ok.made.lossy.points l (next + c.len-count.result)) (sym sent)
    (subst (λ n. IsSource has c.self.inside.w c.self.inside.h (staying_jobs filed) c.self.inside.batch.pending c.in-Ok.made.lossy.points (c.self.inside.acks.draws ++ sent_from next (ready_jobs filed)) (next + n)) (sym count) kept))

pub returns : goal.returns
returns g c =
    let has = g.R.Points.has in
    let jobs : List (HeldJob g.row.R.Denot) = c.self.inside.jobs.jobs in
    let number = c.args.done.job.number in
    let e : Encoding = c.args.done.encoding in
    let filed : List (HeldJob g.row.R.Denot) = with_encoding jobs number e in
    let drafted : Drafted has c.self.inside.wid c.args.now c.self.inside.next_sequence filed c.self.inside.lossy c.in-Ok.made.packets.items c.in-Ok.made.lossy = c.in-Ok.ensures in
    let drawn : length c.in-Ok.made.packets.items ≡ length (ready_jobs filed) = drafts_count has c.self.inside.wid c.args.now c.self.inside.next_sequence (ready_jobs filed) drafted.start c.in-Ok.made.packets.items c.in-Ok.made.lossy drafted.drafts in
    let count : c.len-count.result ≡ length (ready_jobs filed) = omega (arith, c.len-count.ensures, c.in-Ok.made.packets.ok.0, drawn) in
    let most : length (ready_jobs filed) ≤ length jobs = most_ready has jobs number e in
    let next = c.self.inside.next_sequence in
    let kept_jobs : c.keep.new.jobs.jobs ≡ filed = c.keep.ensures in
    let stay : c.leave.new.jobs.jobs ≡ staying_jobs filed = c.leave.ensures ∙ ap (λ (js : List (HeldJob g.row.R.Denot)). staying_jobs js) kept_jobs in
    let sent : c.note_sent.new.acks.draws ≡ c.self.inside.acks.draws ++ sent_from next (ready_jobs filed) =
    c.note_sent.ensures ∙ ap (λ (l : List Sent). l ++ sent_from next (take c.len-count.result c.keep.new.jobs.jobs)) c.reserve.ensures.draws
    ∙ ap (λ (js : List (HeldJob g.row.R.Denot)). c.self.inside.acks.draws ++ sent_from next (take c.len-count.result js)) kept_jobs
    ∙ ap (λ n. c.self.inside.acks.draws ++ sent_from next (take n filed)) count
    ∙ ap (λ (js : List (HeldJob g.row.R.Denot)). c.self.inside.acks.draws ++ sent_from next js) (take_readies has filed) in
    let w = c.self.inside.w in
    let h = c.self.inside.h in
    let o : Outgoing g.row.R.Denot = c.args.out.now.waiting in
    let was : SourceSeen = seen has c.self.inside.conn.0 c.self.inside.wid w h c.self.inside.mapped jobs c.self.inside.batch c.self.inside.lossy c.self.inside.acks.draws next in
    let then : SourceSeen = seen has c.self.inside.conn.0 c.self.inside.wid w h c.self.inside.mapped (staying_jobs filed) c.self.inside.batch c.in-Ok.made.lossy (c.self.inside.acks.draws ++ sent_from next (ready_jobs filed)) (next + length (ready_jobs filed)) in
    let last : SourceSeen = seen has c.self.inside.conn.0 c.self.inside.wid w h c.self.inside.mapped c.leave.new.jobs.jobs c.self.inside.batch c.in-Ok.made.lossy c.note_sent.new.acks.draws (next + c.len-count.result) in
    let end : last ≡ then = λ i. seen has c.self.inside.conn.0 c.self.inside.wid w h c.self.inside.mapped (stay i) c.self.inside.batch c.in-Ok.made.lossy (sent i) (next + count i) in
    let filing : is_to c.args.done c.args.self.now ≡ Filed = own_is (is_to c.args.done c.args.self.now) (sym c.standing.ensures ∙ c.in-Own.is) in
    let here : is_to c.args.done was ≡ Filed = subst (λ (s : SourceSeen). is_to c.args.done s ≡ Filed) (sym c.self.view_is) filing in
    let all : c.put_all.new.out.waiting ≡ record o { packets = o.packets ++ c.in-Ok.made.packets.items } =
    c.put_all.ensures ∙ ap (λ (p : Outgoing g.row.R.Denot). record p { packets = p.packets ++ c.in-Ok.made.packets.items }) c.reserve.ensures.waiting in
    let files : Files has number c.args.done.job.capture c.args.now was then o (record o { packets = o.packets ++ c.in-Ok.made.packets.items }) = files_so has c.points_are_their_tests.ensures.alike c.draws_are_the_models.ensures.lossy c.draws_are_the_models.ensures.relief c.self.inside.conn.0 c.self.inside.wid c.self.inside.w c.self.inside.h c.self.inside.mapped jobs
    c.self.inside.batch c.self.inside.lossy c.in-Ok.made.lossy c.self.inside.acks.draws next c.args.now number e c.args.done.job.capture c.in-Ok.made.packets.items c.self.invariant drafted here o in (
      filing,
      subst (λ (s : SourceSeen). Files has number c.args.done.job.capture c.args.now s last o c.put_all.new.out.waiting) c.self.view_is
          (subst (λ (s : SourceSeen). Files has number c.args.done.job.capture c.args.now was s o c.put_all.new.out.waiting) (sym end)
          (subst (λ (p : Outgoing g.row.R.Denot). Files has number c.args.done.job.capture c.args.now was then o p) (sym all) files)),
    )
