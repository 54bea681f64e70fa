use Rattle.std.specs.Prelude.{[], ◌∷◌}
use Rattle.packet_frames.proofs.Layers.{put_in-List, put_in-Int, put_in-Bytes, put_in-Dict, empty_is, no_string}
use Rattle.packet_frames.proofs.laws.a_chunk_is_put_in_by_form.Goals as goal

pub returns-clause-list : goal.returns-clause-list
returns-clause-list c = put_in-List

pub returns-clause-int : goal.returns-clause-int
returns-clause-int c = put_in-Int

pub returns-clause-bytes : goal.returns-clause-bytes
returns-clause-bytes c = put_in-Bytes

pub returns-clause-dict : goal.returns-clause-dict
returns-clause-dict c = put_in-Dict

pub returns-clause-empty : goal.returns-clause-empty
returns-clause-empty c = empty_is []

pub returns-clause-full : goal.returns-clause-full
returns-clause-full c = λ b text. empty_is (b ∷ text)

pub returns-clause-no_string : goal.returns-clause-no_string
returns-clause-no_string c = no_string
