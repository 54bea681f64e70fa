use Rattle.packet_frames.proofs.Streams.{read_on-append}
use Rattle.packet_frames.proofs.laws.appending_reads_on.Goals as goal

pub returns : goal.returns
returns c = read_on-append
