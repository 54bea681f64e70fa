use Rattle.packet_frames.proofs.Contents.{content_reads}
use Rattle.packet_frames.proofs.laws.a_content_reads_as_its_grammar_says.Goals as goal

pub returns : goal.returns
returns c = content_reads
