use Rattle.std.proofs.Common.{None, sym, subst}
use Rattle.packet_frames.specs.Written.{IsThatPacket}
use Rattle.packet_frames.proofs.Writing.{that_packet}
use Rattle.hello_caps.specs.Replies.{goodbye_value}
use Rattle.hello_caps.proofs.Spellings.{not_hello, no_encoding, uuid_too_long, goodbye_written, bytes_of_spelling}
use Rattle.hello_caps.proofs.refusal.goodbye.Goals as goal

pub returns-in-NotHello-clause-bytes : goal.returns-in-NotHello-clause-bytes
returns-in-NotHello-clause-bytes c = rw c.in-NotHello.is (sym (bytes_of_spelling _ _ not_hello))

pub returns-in-NotHello-clause-packets : goal.returns-in-NotHello-clause-packets
returns-in-NotHello-clause-packets c =
    let v = goodbye_value c.args.fault.now in
    subst (IsThatPacket v None) (sym (returns-in-NotHello-clause-bytes c)) (that_packet v None (goodbye_written c.args.fault.now))

pub returns-in-NoEncoding-clause-bytes : goal.returns-in-NoEncoding-clause-bytes
returns-in-NoEncoding-clause-bytes c = rw c.in-NoEncoding.is (sym (bytes_of_spelling _ _ no_encoding))

pub returns-in-NoEncoding-clause-packets : goal.returns-in-NoEncoding-clause-packets
returns-in-NoEncoding-clause-packets c =
    let v = goodbye_value c.args.fault.now in
    subst (IsThatPacket v None) (sym (returns-in-NoEncoding-clause-bytes c)) (that_packet v None (goodbye_written c.args.fault.now))

pub returns-in-Uuid-clause-bytes : goal.returns-in-Uuid-clause-bytes
returns-in-Uuid-clause-bytes c = rw c.in-Uuid.is (sym (bytes_of_spelling _ _ (uuid_too_long _)))

pub returns-in-Uuid-clause-packets : goal.returns-in-Uuid-clause-packets
returns-in-Uuid-clause-packets c =
    let v = goodbye_value c.args.fault.now in
    subst (IsThatPacket v None) (sym (returns-in-Uuid-clause-bytes c)) (that_packet v None (goodbye_written c.args.fault.now))
