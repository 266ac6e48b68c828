use Rattle.nap_draw.proofs.{agreeing_fits, one_put}
use Rattle.nap_draw.proofs.work.Work.put.Goals as goal

pub put-requires : goal.put-requires
put-requires g c = let r = c.requires in (agreeing_fits c.args.self.now.state _ c.args.entry r.agrees r.follows.holds r.follows.made r.follows.comes).0

pub returns : goal.returns
returns g c =
    let put = c.put.ensures in
    one_put _ _ _ _ _ (g.met.S.Sink.took_none _) put.took put.after put.memory put.wants put.refuses put.write put.only_write put.broke put.still
