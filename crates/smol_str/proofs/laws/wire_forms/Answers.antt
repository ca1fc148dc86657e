use Rattle.smol_str.proofs.WireLemmas.Wire.{wire-apart, length-wire, Holds-one, Holds-whole, body-Holds, Holds-written, Holds-stated}
use Rattle.smol_str.proofs.laws.wire_forms.Goals as goal

pub returns : goal.returns
returns c = record {
  apart = wire-apart;
  length = length-wire;
  one_text = Holds-one;
  not_ended_early = Holds-whole;
  body = body-Holds;
  scalars = λ b t n h. h.scalars;
  written = Holds-written;
  stated = Holds-stated;
}
