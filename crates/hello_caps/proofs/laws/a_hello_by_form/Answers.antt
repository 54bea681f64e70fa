use Rattle.hello_caps.proofs.ByForm.{hello_form, never_no_hello, other_form}
use Rattle.hello_caps.proofs.laws.a_hello_by_form.Goals as goal

pub returns : goal.returns
returns c = record { hello = hello_form; only = never_no_hello; other = other_form }
