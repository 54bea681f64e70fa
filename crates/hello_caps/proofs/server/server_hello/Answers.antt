use Rattle.std.proofs.Common.{rules, None, sym, subst}
use Rattle.bencode_values.specs.declared.value.Value.{Value}
use Rattle.packet_frames.specs.Written.{MayBeWritten}
use Rattle.hello_caps.specs.Replies.{server_hello_value}
use Rattle.hello_caps.proofs.Spellings.{hello_written}
use Rattle.hello_caps.proofs.server.server_hello.Goals as goal

pub returns-clause-value : goal.returns-clause-value
unfolding server_hello_value
returns-clause-value c = search rules

pub returns-clause-fits : goal.returns-clause-fits
returns-clause-fits c = subst (λ (v : Value). MayBeWritten v None) (sym (returns-clause-value c)) (hello_written c.args.caps.now.lossy)
