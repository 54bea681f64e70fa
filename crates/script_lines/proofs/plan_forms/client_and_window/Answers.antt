use Rattle.std.proofs.Common.{ℕ, List, [], ◌∷◌}
use Rattle.script_lines.specs.Text.{words_of}
use Rattle.script_lines.specs.Arguments.{number_of, number_at}
use Rattle.script_lines.specs.Forms.{client, wid}
use Rattle.script_lines.proofs.PlacesLemmas.{read_one, read_next}
use Rattle.script_lines.proofs.plan_forms.client_and_window.Goals as goal

pub returns : goal.returns
returns c =
    read_next client number_of (wid ∷ []) (number_at 0) (words_of c.args.words.now) (words_of c.client_in-k.result.1.now) c.client_in-k.result.0 c.only.result c.both.result c.client_in-k.ensures.value c.client_in-k.ensures.rest
    (read_one wid number_of (words_of c.client_in-k.result.1.now) (words_of c.wid_in-wid.result.1.now) c.wid_in-wid.result.0 c.only.result c.wid_in-wid.ensures.value c.wid_in-wid.ensures.rest c.only.ensures)
    c.both.ensures
