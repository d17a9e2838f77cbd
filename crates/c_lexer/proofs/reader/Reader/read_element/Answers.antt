use Rattle.std.proofs.Common.{take, drop, length, ◌-◌}
use Rattle.std.proofs.lemmas.List.{take_rest}
use Rattle.c_lexer.specs.Scanning.Elements.{kind_in}
use Rattle.c_lexer.proofs.Elements.{can_open}
use Rattle.c_lexer.proofs.Readings.{further, fault_read}
use Rattle.c_lexer.proofs.reader.Reader.read_element.Goals as goal

pub fault_kind-requires : goal.fault_kind-requires
fault_kind-requires c = can_open c.args.self.now.fresh _ c.in-Err.unread c.in-Err.ensures.0 c.in-Err.ensures.1

pub returns-in_ok-add-in-Ok-clause-stands : goal.returns-in_ok-add-in-Ok-clause-stands
returns-in_ok-add-in-Ok-clause-stands c =
    let bytes = c.args.bytes.now in
    let at = c.args.self.now.place.byte in
    let rest = take (length bytes - at) (drop at bytes) in
    let stands = c.requires.stands in
    let found = c.in-Ok.ensures in
    let read = c.in_ok-add-in-Ok.ensures stands.elements stands.read in
    let next = further bytes rest c.args.self.now c.add.new.self (kind_in rest c.in-Ok.found.kind) c.in-Ok.found.length stands (take_rest bytes at) found.0 found.1 found.3 read in
    (next.stands, next.moved)

pub returns-in_ok-kind-in-Err-clause-refuses : goal.returns-in_ok-kind-in-Err-clause-refuses
returns-in_ok-kind-in-Err-clause-refuses c =
    let bytes = c.args.bytes.now in
    fault_read bytes _ c.args.self.now c.in_ok-kind-in-Err.kind c.requires.stands (take_rest bytes c.args.self.now.place.byte) c.in-Err.ensures.0 c.in_ok-kind-in-Err.ensures
