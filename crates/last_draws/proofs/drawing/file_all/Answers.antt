use Rattle.std.proofs.Common.{rules, ◌≡◌, ◌<◌, List, length, sym, subst}
use Rattle.capture_jobs.specs.Jobs.{EncodingJob, FinishedJob}
use Rattle.capture_jobs.specs.declared.answers.Filed.{Filed}
use Rattle.capture_jobs.specs.declared.answers.Filed.TheVariants as F
use Rattle.encode_pool.specs.Finished.{finished}
use Rattle.attached_client.specs.Capturing.{ClientFiles}
use Rattle.last_draws.specs.Filing.{FilesThrough}
use Rattle.last_draws.proofs.Filed.{one_more, no_more, front_and_rest}
use Rattle.last_draws.proofs.drawing.file_all.Goals as goal

pub jobs-preserved : goal.jobs-preserved
jobs-preserved c =
    let some : 0 < length c.jobs.left.items = search rules in
    let split = front_and_rest c.jobs.left.items c.remove.new.self.items c.remove.result some c.remove.ensures.value c.remove.ensures.items in
    let done : c.in-Ok.done ≡ finished c.remove.result = c.in-Ok.ensures.ok in
    let answered = subst (λ (answer : Filed). ClientFiles c.args.wid c.args.now c.jobs.client.client c.in-Ok.done answer c.file.new.self.client) c.in-Filed.is c.file.ensures in
    let files : ClientFiles c.args.wid c.args.now c.jobs.client.client (finished c.remove.result) F.Filed c.file.new.self.client =
    subst (λ (d : FinishedJob). ClientFiles c.args.wid c.args.now c.jobs.client.client d F.Filed c.file.new.self.client) done answered in
    record {
      some = λ c' rest. c.jobs.invariant.some c' (one_more c.args.wid c.args.now (finished c.remove.result) F.Filed c.jobs.client.client c.file.new.self.client c' files rest);
      all = λ c' rest. c.jobs.invariant.all c' (subst (λ (items : List EncodingJob). FilesThrough c.args.wid c.args.now items c.jobs.client.client c') (sym split) (c.file.new.self.client, files, rest));
    }

pub returns-in_default-file : goal.returns-in_default-file
returns-in_default-file c = record {
  some = c.jobs.invariant.some c.file.new.self.client (one_more c.args.wid c.args.now c.in-Ok.done c.file.result c.jobs.client.client c.file.new.self.client c.file.new.self.client c.file.ensures (no_more c.args.wid c.args.now c.file.new.self.client));
  all = tt;
}
