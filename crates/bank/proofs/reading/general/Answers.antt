-- The integers are taken one behind the other.
use mathlib.Core.Path.{refl, sym}
use Rattle.fields.proofs.Readers.{Stands, number, on}
use Rattle.bank.proofs.Answers.{three_integers}
use Rattle.bank.proofs.reading.general.Goals as goal

pub returns : goal.returns
returns c =
    let x = c.args in
    let b = x.reader.bank.now in
    let first : Stands x.reader b 8 = record { bank = refl; place = c.requires.1 } in
    let second = on first x.a c.take-prefix.ensures.rest in
    let third = on second x.b c.take-reference.ensures.rest in
    let end = on third x.c c.take-serial.ensures.rest in
    rw (c.fields.ensures, end.bank, number first x.a c.take-prefix.ensures.number, number second x.b c.take-reference.ensures.number, number third x.c c.take-serial.ensures.number)
    (sym (three_integers b _ x.a x.b x.c c.requires.0))
