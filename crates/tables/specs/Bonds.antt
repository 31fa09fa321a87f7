-- Bonds, as an opening tells them and as the pool keeps them.
use Rattle.std.specs.Prelude.{Bool, not, ◌||◌}
use Rattle.terms.specs.Ranges.{allowed}
use Rattle.terms.specs.declared.range.Range.TheVariants as range
use Rattle.tables.specs.declared.bond.Bond.{Bond}
use Rattle.tables.specs.declared.bond.BondFigures.{BondFigures}

-- a figure of a bond's row is outside its range
abbrev pub bad_bond : BondFigures → Bool
bad_bond f =
    not (allowed range.Unit f.unit)
    || not (allowed range.Price f.price)
    || not (allowed range.Discount f.discount)
    || not (allowed range.Adjustment f.adjustment)
    || not (allowed range.Limit f.lent_limit)
    || not (allowed range.Limit f.pledge_limit)
    || not (allowed range.Maturity f.maturity)

abbrev pub bond_of : BondFigures → Bond
bond_of f = record {
  unit = f.unit;
  price = f.price;
  discount = f.discount;
  adjustment = f.adjustment;
  lent_limit = f.lent_limit;
  pledge_limit = f.pledge_limit;
  maturity = f.maturity;
}
