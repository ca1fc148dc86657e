use Rattle.smol_str.proofs.BuilderLemmas.Collect.{extended}
use Rattle.smol_str.proofs.collect.traits.SmolStrBuilderExtend.TheImpl.Goals as goal

-- std's clause, from those of the call
pub extend-tells : goal.extend-tells
extend-tells g c = record {
  ran =
      extended g.U.IntoIterator.into_iter_gives g.U.IntoIter.Iterator.next_gives g.P.Piece.texts c.args.iter c.args.self.now
      c.new.self.now c.result c.ensures.ok c.ensures.stopped;
}
