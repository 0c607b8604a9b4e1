use Rattle.qsg_dataset.proofs.data_set.DataSet.read_header.Goals as goal

pub returns-clause-read : goal.returns-clause-read
returns-clause-read g c = let h = rw c.requires at c.read.ensures.read in rw (← c.self.view_is) h
