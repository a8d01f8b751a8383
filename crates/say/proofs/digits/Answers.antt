-- What `{:02x}` writes of a byte is its two digits.
use Rattle.std.proofs.Common.{rules, false}
use Rattle.std.proofs.lemmas.Fmt.{hex_byte}
use Rattle.say.proofs.digits.Goals as goal

pub returns : goal.returns
returns g c = search (rules, hex_byte false c.args.b c.ranges.b.fits)
