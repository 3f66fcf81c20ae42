-- Four pieces: the filter's digit, a dot, the company prefix, a dot.
use Prim.Native.Nat.{◌+◌}
use mathlib.Core.Path.{◌≡◌}
use native.Mathlib.Omega.{arith}
use lib.Dec.{lit<}
use Rattle.numeral.proofs.Shortest.{shortest_small}
use Rattle.digits.proofs.Joins.{then, digits_end}
use Rattle.text.proofs.writing.put_company.Goals as goal
use Rattle.text.proofs.writing.put_company.Goals.{After-digits}

-- where the company prefix ends
prefix_end : (c : After-digits) → c.digits.new.self.at ≡ c.args.w.now.at + 2 + c.args.tag.digits
prefix_end c = omega (arith, digits_end c.args.tag.digits c.args.tag.prefix c.digits.ensures, c.byte.ensures.puts.end, c.byte-2.ensures.puts.end)

pub byte-requires-3 : goal.byte-requires-3
byte-requires-3 c =
    omega (arith, prefix_end (goal.at.byte-requires-3 c).After-digits, c.byte.ensures.size, c.byte-2.ensures.size, c.digits.ensures.size, c.requires.1, c.requires.0.most)

pub returns : goal.returns
returns c =
    let tag = c.args.tag in record {
      adds = rw (shortest_small 10 (lit< tt) tag.filter c.requires.0.one_digit)
          (then c.byte.ensures (then c.byte-2.ensures (then c.digits.ensures c.byte-3.ensures)));
      upper_bound = omega (arith, prefix_end (goal.at.returns c).After-digits, c.byte-3.ensures.puts.end, c.requires.0.most);
    }
