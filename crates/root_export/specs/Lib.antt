pub mod RootCall
